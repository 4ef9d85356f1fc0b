use Rattle.std.proofs.Common.{◌≡◌, ◌&&◌, ◌==◌, ℕ, Bool, List, not, sym, ap, ◌∙◌, inl, refl}
use Rattle.registers.specs.declared.regs.Regs.{Regs}
use Rattle.registers.specs.Fit.{on_line}
use Rattle.card.specs.Row.{regs_of}
use Rattle.table.specs.Rows.{row_at}
use Rattle.table.specs.Network.{node_of}
use Rattle.table.proofs.Folds.{seek_none, seek_here, seek_more, below_here, below_none}
use Rattle.table.proofs.Rows.Walk.{before_first, before_fits, before_end, before_less, before_next, before_is}
use Rattle.table.proofs.Online.Nodes.{node_is, other}
use Rattle.table.proofs.network.node_of.Goals as goal

-- what is asked of row k, which is read as r, with the registers g
asked : (net : List ℕ) (id except k : ℕ) → (r : List ℕ) → r ≡ row_at net k → (g : Regs) → g ≡ regs_of r → (b : Bool) → b ≡ on_line g
    → other net id except k ≡ (b && (g.id == id) && not (k == except))
asked net id except k r er g eg b eb = sym (ap (λ (x : Bool). x && not (k == except)) (node_is net k g b (eg ∙ ap regs_of er) eb id))

pub loop-k-init : goal.loop-k-init
loop-k-init c =
    rw (c.into_iter-k-iterator.ensures.into_iter_gives, c.enumerate-k-items.ensures.count, c.enumerate-k-items.ensures.source, c.first.ensures)
    (let p = before_first c.args.net.now c.args.n 0 _ refl refl in ((tt, tt, inl (before_fits _ _ _ _ p c.ranges.n.fits)), tt, p, seek_none _))

pub returns-then-on_line-g : goal.returns-then-on_line-g
unfolding node_of
returns-then-on_line-g c =
    let p = c.loop-k.invariant.2 in
    let s = c.in-Some.ensures.steps in
    rw s.1 (below_here _ _ _ (before_less _ _ _ _ p _ c.in-Some.row s.0) (sym (seek_here _ _ _ c.loop-k.invariant.3
    (asked _ c.args.id c.args.except _ _ (before_is _ _ _ _ p _ c.in-Some.row s.0) _ c.load-g.ensures _ c.on_line.ensures ∙ rw s.1 at c.if-on_line-g.true)
    (before_less _ _ _ _ p _ c.in-Some.row s.0))))

pub loop-k-preserved : goal.loop-k-preserved
loop-k-preserved c =
    let p = c.loop-k.invariant.2 in
    let s = c.in-Some.ensures.steps in
    let q = before_next _ _ _ _ p _ c.in-Some.row s.0 _ s.2 in (
      (tt, tt, inl (before_fits _ _ _ _ q c.ranges.n.fits)),
      tt,
      q,
      rw s.2 (seek_more _ _ c.loop-k.invariant.3
          (asked _ c.args.id c.args.except _ _ (before_is _ _ _ _ p _ c.in-Some.row s.0) _ c.load-g.ensures _ c.on_line.ensures ∙ rw s.1 at c.if-on_line-g.false)),
    )

pub returns : goal.returns
unfolding node_of
returns c =
    let e = before_end _ _ _ _ c.loop-k.invariant.2 _ c.in-None.ensures.steps.0 in below_none _ _ (rw e at c.loop-k.invariant.3)
