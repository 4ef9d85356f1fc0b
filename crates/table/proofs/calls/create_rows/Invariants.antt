-- The rows counted are fresh, and a is where the next begins.
use Rattle.std.proofs.Common.{◌≡◌}
use Rattle.card.specs.Access.{fresh_row}
use Rattle.table.specs.Calls.{exact_length}
use Rattle.table.proofs.Rows.Passes.{Laying}
use Rattle.table.proofs.calls.create_rows.Given as goal

abbrev pub invariant-loop : goal.invariant-loop
invariant-loop l = (l.a ≡ exact_length l.counter) × Laying (λ j. fresh_row) l.fn.net l.net l.counter l.a
