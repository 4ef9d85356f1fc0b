-- No word is empty exactly if none is from here on, after the gap or not.
use Rattle.std.proofs.Common.{drop, ◌≡◌, true}
use Rattle.words.specs.Words.{spaced}
use Rattle.words.proofs.words.spaced.Given as goal

abbrev pub invariant-loop-b : goal.invariant-loop-b
invariant-loop-b l = spaced true l.line ≡ spaced l.gap (drop l.b-index l.line)
