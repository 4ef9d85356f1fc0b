use Rattle.std.proofs.Common.{sym, ap, ◌∙◌, arith, inl, refl}
use Rattle.card.specs.Row.{regs_of}
use Rattle.table.specs.Network.{ids_differ}
use Rattle.table.proofs.Folds.{passed_none, passed_fails, passed_more}
use Rattle.table.proofs.Rows.Starts.{start_mono}
use Rattle.table.proofs.Rows.Walk.{before_first, before_fits, before_less, before_next, before_is}
use Rattle.table.proofs.Online.Nodes.{free, free_off, free_not, free_is}
use Rattle.table.proofs.network.ids_differ.Goals as goal
use Rattle.table.proofs.network.ids_differ.Goals.{else-on_line-via-then-on_line+else-is_some, else-on_line-via-else-on_line}

pub loop-k-init : goal.loop-k-init
loop-k-init c =
    rw (c.into_iter-k-iterator.ensures.into_iter_gives, c.enumerate-k-items.ensures.count, c.enumerate-k-items.ensures.source, c.first.ensures)
    (let p = before_first c.args.net.now c.args.n 0 _ refl refl in ((tt, tt, inl (before_fits _ _ _ _ p c.ranges.n.fits)), tt, p, passed_none _ _))

pub node_of-requires : goal.node_of-requires
node_of-requires c =
    let s = c.in-Some.ensures.steps in
    let l = before_less _ _ _ _ c.loop-k.invariant.2 _ c.in-Some.row s.0 in omega (arith, c.requires, s.1, start_mono c.args.net.now c.in-Some.k c.args.n (omega (arith, l, s.1)))

pub returns-then-is_some : goal.returns-then-is_some
unfolding ids_differ
returns-then-is_some c =
    let p = c.loop-k.invariant.2 in
    let s = c.in-Some.ensures.steps in
    let l = before_less _ _ _ _ p _ c.in-Some.row s.0 in
    passed_fails (free _) _ _ l (free_not _ _ _ _ (c.load-g.ensures ∙ ap regs_of (before_is _ _ _ _ p _ c.in-Some.row s.0)) c.on_line.ensures c.if-on_line.true _ (rw s.1 at c.node_of.ensures) (sym c.is_some.ensures ∙ c.if-is_some.true))

pub loop-k-preserved : goal.loop-k-preserved
loop-k-preserved c =
    let p = c.loop-k.invariant.2 in
    let s = c.in-Some.ensures.steps in
    let l = before_less _ _ _ _ p _ c.in-Some.row s.0 in
    let q = before_next _ _ _ _ p _ c.in-Some.row s.0 _ s.2 in
    let e = c.load-g.ensures ∙ ap regs_of (before_is _ _ _ _ p _ c.in-Some.row s.0) in (
      (tt, tt, inl (before_fits _ _ _ _ q c.ranges.n.fits)),
      tt,
      q,
      rw s.2 (passed_more (free _) _ _ l c.loop-k.invariant.3 (elim c.else-on_line.branch [
        | else-on_line-via-then-on_line+else-is_some w ↦ free_is _ _ _ _ e c.on_line.ensures w.if-on_line.true _ (rw s.1 at w.node_of.ensures) (sym w.is_some.ensures ∙ w.if-is_some.false)
        | else-on_line-via-else-on_line w ↦ free_off _ _ _ _ e c.on_line.ensures w.if-on_line.false
      ])),
    )
