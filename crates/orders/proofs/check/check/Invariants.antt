-- None of the records passed is refused.
use Rattle.std.proofs.Common.{◌≡◌}
use Rattle.table.specs.Folds.{seek}
use Rattle.orders.specs.Check.{refused}
use Rattle.orders.proofs.check.check.Given as goal

abbrev pub invariant-loop-k : goal.invariant-loop-k
invariant-loop-k l = seek (refused l.order) l.k-counter ≡ l.k-counter
