-- The calls that may take a row on line or off line, put together from what their parts ensure.
-- Assumes nothing.
use mathlib.Core.Path.{◌≡◌, refl, sym, ◌∙◌}
use mathlib.Core.Bool.{Bool, true, false, not, ◌&&◌}
use mathlib.Core.List.{List, [], ◌∷◌}
use Prim.Native.Nat.{ℕ, ◌-◌, ◌<◌}
use lib.Dec.{eqb}
use borrow.Author.Tests.{eq-eqb}
use borrow.Rule.Slice.PartMut.{mid_of, put_mid}
use Rattle.registers.specs.declared.regs.Regs.{Regs}
use Rattle.told.specs.Numbers.{DONE, DUPLICATE, ◌when◌, refuse}
use Rattle.card.specs.Row.{put_regs}
use Rattle.registers.specs.Fit.{on_line}
use Rattle.registers.specs.Registers.{after_write}
use Rattle.registers.specs.Refusals.{write_refusals, write_number}
use Rattle.card.specs.Access.{row_after_write, row_after_reset}
use Rattle.registers.specs.Events.{burst}
use Rattle.bits.proofs.Words.Bools.{and_assoc}
use Rattle.told.proofs.Told.Smallest.{told_append}
use Rattle.told.proofs.Told.Results.{stands}
use Rattle.told.specs.declared.refusals.Refusal as kinds
use Rattle.told.specs.Refusals.{number_of}
use Rattle.std.proofs.Common.{Option}
use Rattle.std.specs.Option.{is_some}
use Rattle.table.specs.Folds.{below}
use Rattle.table.proofs.Folds.{below_some}
use Rattle.table.specs.Rows.{row_at, set_row}
use Rattle.table.specs.Network.{rows, phase, holder, LOST, turned, regs_at, on_line_at, node_of, shape}
use Rattle.table.specs.Calls.{place_number, is_holder, settled, duplicate, row_write_refusals, net_write_number, net_after_write, net_after_reset}
use Rattle.table.proofs.Rows.Walks.{Lies, row_done_lem}
use Rattle.table.proofs.Online.Nodes.{online_is}
use Rattle.table.proofs.Access.Placed.{row_placed, placed_asked}

-- ---- row k, as a call has left it, with the registers g
module _ (net : List ℕ) (k : ℕ) (was : Bool) (g : Regs) (b : Bool) (p : g ≡ regs_at net k) (q : b ≡ on_line g) where
  pub settle_stays : b ≡ true → was ≡ true → net ≡ settled net k was
  unfolding settled
  settle_stays t u = rw (sym (online_is net k g b p q) ∙ t, u)

  pub settle_bursts : b ≡ true → was ≡ false → (h : Regs) → h ≡ burst g → (s : List ℕ) → s ≡ set_row net k (put_regs (row_at net k) h)
      → (m : List ℕ) → m ≡ turned s LOST 0 → m ≡ settled net k was
  unfolding settled
  settle_bursts t u h d s c m a = a ∙ rw (sym (online_is net k g b p q) ∙ t, u, c, d, p)

  module _ (t : b ≡ false) (f : ℕ) (d : f ≡ phase net) (h : ℕ) (e : h ≡ holder net) where
    held : (was && not (eqb f LOST) && eqb h k) ≡ (was && is_holder net k)
    held = rw (d, e) (sym (and_assoc was (not (eqb (phase net) LOST)) (eqb (holder net) k)))

    pub settle_lost : (was && not (eqb f LOST) && eqb h k) ≡ true → (m : List ℕ) → m ≡ turned net LOST 0 → m ≡ settled net k was
    unfolding settled
    settle_lost u m a = a ∙ rw (sym (online_is net k g b p q) ∙ t, sym held ∙ u)

    pub settle_kept : (was && not (eqb f LOST) && eqb h k) ≡ false → net ≡ settled net k was
    unfolding settled
    settle_kept u = rw (sym (online_is net k g b p q) ∙ t, sym held ∙ u)

-- ---- hardware reset: the row is lent from a to e
pub reset_done : (net : List ℕ) (k : ℕ) → place_number net k ≡ 0 → (was : Bool) → was ≡ on_line_at net k → (a e : ℕ) → Lies net k a e → (s : List ℕ)
    → s ≡ row_after_reset (mid_of a (e - a) net) → (m : List ℕ) → m ≡ settled (put_mid a (e - a) net s) k was → m ≡ net_after_reset net k
unfolding net_after_reset
reset_done net k z was o a e q s c m d = d ∙ rw (row_done_lem net k a e q row_after_reset s c, o, eq-eqb _ _ z)

-- ---- writing: DUPLICATE as the code asks it
pub is_duplicate : (net : List ℕ) (k r : ℕ) (g : Regs) → g ≡ regs_at net k → (v : ℕ) (h : Regs) → h ≡ after_write g r v → (n : ℕ) → n ≡ rows net
    → (on : Bool) → on ≡ on_line h → (o : Option ℕ) → o ≡ below n (node_of net h.id k n) → (on && is_some o) ≡ duplicate net k r v
unfolding duplicate
is_duplicate net k r g e v h a n l on o f d = rw (o, d, below_some, l, a, e)

-- the row is lent from a to e
pub write_done : (net : List ℕ) (k r v : ℕ) → net_write_number net k r v ≡ 0 → (a e : ℕ) → Lies net k a e → (s : List ℕ)
    → s ≡ row_after_write (mid_of a (e - a) net) r v → (was : Bool) → was ≡ on_line_at net k
    → (c : List ℕ) → c ≡ settled (put_mid a (e - a) net s) k was → c ≡ net_after_write net k r v
unfolding net_after_write
write_done net k r v z a e q s t was b c d = d ∙ rw (row_done_lem net k a e q (λ row. row_after_write row r v) s t, b, eq-eqb _ _ z)

-- in a network that SHAPE does not refuse: the card's number, and DUPLICATE behind it
pub write_asked : (net : List ℕ) (k : ℕ) → shape net ≡ true → k < rows net → (r v : ℕ) (g : Regs) → g ≡ regs_at net k → (a : ℕ) → a ≡ write_number g r v
    → (d : Bool) → d ≡ duplicate net k r v → (m : ℕ) → m ≡ refuse a DUPLICATE d → m ≡ net_write_number net k r v
unfolding net_write_number
write_asked net k p q r v g e a u d j m t =
    placed_asked net k 0 (sym (row_placed net k p q)) (row_write_refusals net k r v) refl m
    (t ∙ rw (u, e, j) (sym (told_append (write_refusals (regs_at net k) r v) (DUPLICATE when duplicate net k r v ∷ []) DONE)))

-- a refusal of the card's stands; and that of DUPLICATE, or none, is told where the card refuses nothing
module _ (net : List ℕ) (k : ℕ) (p : shape net ≡ true) (q : k < rows net) (r v : ℕ) (g : Regs) (u : g ≡ regs_at net k) where
  pub card_refuses : (e : kinds.Refusal) → number_of e ≡ write_number g r v → number_of e ≡ net_write_number net k r v
  card_refuses e h = write_asked net k p q r v g u _ refl _ refl (number_of e) (stands e (write_number g r v) DUPLICATE (duplicate net k r v) h)

  pub then_duplicate : write_number g r v ≡ 0 → (d : Bool) → d ≡ duplicate net k r v → (m : ℕ) → m ≡ refuse DONE DUPLICATE d → m ≡ net_write_number net k r v
  then_duplicate z d j m h = write_asked net k p q r v g u _ refl d j m (rw z h)

pub ruleset settles = (settle_stays, settle_bursts, settle_lost, settle_kept)
