-- The part sought is the one with as many parts before it, from `from` on, as are left to pass, and it starts where that does.
use Rattle.std.proofs.Common.{length, drop, ◌≡◌, ◌+◌, ◌-◌, ◌≤◌}
use Rattle.words.specs.Words.{part, part_from}
use Rattle.words.proofs.words.part.Given as goal

abbrev pub invariant-loop : goal.invariant-loop
invariant-loop l =
    record {
      within : l.from ≤ length l.text;
      sought : part l.stop (drop l.from l.text) (l.k - l.counter) ≡ part l.stop l.text l.k;
      starts : l.from + part_from l.stop (drop l.from l.text) (l.k - l.counter) ≡ part_from l.stop l.text l.k;
    }
