-- As many rows as are counted lie before a.
use Rattle.std.proofs.Common.{◌≡◌}
use Rattle.table.specs.Rows.{row_start}
use Rattle.table.proofs.network.row_start.Given as goal

abbrev pub invariant-loop : goal.invariant-loop
invariant-loop l = l.a ≡ row_start l.net l.counter
