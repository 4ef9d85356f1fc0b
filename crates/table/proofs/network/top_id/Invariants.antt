-- `top` is the highest ID of the rows passed.
use Rattle.std.proofs.Common.{◌≡◌}
use Rattle.table.specs.Network.{top_id}
use Rattle.table.proofs.Rows.Walk.{Before}
use Rattle.table.proofs.network.top_id.Given as goal

abbrev pub invariant-loop-row : goal.invariant-loop-row
invariant-loop-row l =
    let k = l.row-iterator.passed in Before l.net l.n k l.row-iterator × (l.top ≡ top_id l.net k)
