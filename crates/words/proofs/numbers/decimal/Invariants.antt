-- The digits passed are worth `value`, and the rest of the word decides.
use Rattle.std.proofs.Common.{drop, ◌≡◌, ◌≤◌}
use Rattle.words.specs.Numbers.{digits, value_after, MOST}
use Rattle.words.proofs.numbers.decimal.Given as goal

abbrev pub invariant-loop-b : goal.invariant-loop-b
invariant-loop-b l =
    record {
      most : l.value ≤ MOST;
      rest : digits l.word ≡ digits (drop l.b-index l.word);
      worth : value_after 0 l.word ≡ value_after l.value (drop l.b-index l.word);
    }
