use Rattle.std.proofs.Common.{arith}
use Rattle.table.proofs.Rows.Passes.{lay_none}
use Rattle.table.proofs.Access.Fresh.{exact_least, exact_none, fresh_part, fresh_next, fresh_laid}
use Rattle.table.proofs.calls.create_rows.Goals as goal

pub loop-init : goal.loop-init
loop-init c = (exact_none, lay_none _ _ (omega (arith, c.requires, exact_least c.args.n)))

pub slice_bounds-create-end : goal.slice_bounds-create-end
slice_bounds-create-end c = fresh_part _ _ _ _ _ c.requires c.loop.invariant.0 c.loop.invariant.1 c.loop-test.true

pub loop-preserved : goal.loop-preserved
loop-preserved c = fresh_next _ _ _ _ _ c.requires c.loop.invariant.0 c.loop.invariant.1 c.loop-test.true _ c.create.ensures

pub returns : goal.returns
returns c = fresh_laid _ _ c.args.n _ _ c.requires c.loop.invariant.0 c.loop.invariant.1 (omega arith)
