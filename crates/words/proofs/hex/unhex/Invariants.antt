-- The first k bytes are stored, and those that the pairs from there on spell make up the rest.
use Rattle.std.proofs.Common.{◌≡◌, ◌*◌, ◌++◌, take, drop}
use Rattle.words.specs.Hex.{unhex}
use Rattle.words.proofs.hex.unhex.Given as goal

abbrev pub invariant-loop-k : goal.invariant-loop-k
invariant-loop-k l = take l.k l.out ++ unhex (drop (2 * l.k) l.word) ≡ unhex l.word
