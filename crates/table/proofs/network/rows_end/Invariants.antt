-- As many rows as are counted lie before a, within the bytes.
use Rattle.std.proofs.Common.{◌≡◌, ◌≤◌, length}
use Rattle.table.specs.Rows.{row_start}
use Rattle.table.proofs.network.rows_end.Given as goal

abbrev pub invariant-loop : goal.invariant-loop
invariant-loop l = (l.a ≡ row_start l.net l.counter) × (l.a ≤ length l.net)
