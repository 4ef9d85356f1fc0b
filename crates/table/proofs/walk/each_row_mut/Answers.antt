use Rattle.std.proofs.Common.{subst, sym, arith}
use Rattle.std.specs.Fork.{AcceptsAt}
use Rattle.table.proofs.Rows.Passes.{changed_none, changed_room, changed_part, changed_next, changed_end}
use Rattle.table.proofs.walk.each_row_mut.Goals as goal

pub loop-k-init : goal.loop-k-init
loop-k-init g c = changed_none _ _ c.args.n c.requires.room

pub row_end-e-requires : goal.row_end-e-requires
row_end-e-requires g c = changed_room _ _ c.args.n c.requires.room c.loop-k.invariant (omega arith)

pub lend-requires : goal.lend-requires
lend-requires g c =
    subst (AcceptsAt g.F.Fn c.args.f c.loop-k.k) (sym (changed_part _ _ c.args.n c.requires.room c.loop-k.invariant (omega arith) _ c.row_end-e.ensures.0))
    (c.requires.accepts c.loop-k.k (omega arith))

pub loop-k-preserved : goal.loop-k-preserved
loop-k-preserved g c = changed_next _ _ c.args.n c.requires.room c.loop-k.invariant (omega arith) _ c.row_end-e.ensures.0 _ c.lend.ensures c.lend.auto.row

pub returns : goal.returns
returns g c = changed_end _ _ c.args.n c.requires.room c.loop-k.invariant (omega arith)
