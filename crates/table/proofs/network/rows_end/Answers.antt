use Rattle.std.proofs.Common.{◌+◌, arith}
use Rattle.table.proofs.Rows.Walks.{rest_size, walk_next, ends_before}
use Rattle.table.proofs.network.rows_end.Goals as goal

pub returns-then-net-a : goal.returns-then-net-a
returns-then-net-a c =
    let net = c.args.net.now in
    let s = rest_size net c.loop.a _ c.size-size.ensures in
    ends_before net (c.loop.counter + 1) _ (omega arith) (omega (arith, walk_next net c.loop.counter _ c.loop.invariant.0 _ s))
