-- Which bytes an event may move of a row that does not hold in TAKEN.
-- Assumes nothing.
use mathlib.Core.Path.{◌≡◌, refl, ◌∙◌}
use mathlib.Core.Bool.{Bool, true, false, ◌||◌}
use mathlib.Core.List.{List, [], ◌∷◌}
use Prim.Native.Nat.{ℕ}
use native.Mathlib.Omega.{arith}
use lib.Dec.{eqb}
use borrow.Author.Tests.{eqb-true, eqb-false, eq-eqb}
use Rattle.line.specs.declared.passes.Event.{Event}
use Rattle.line.specs.declared.passes.Event.TheVariants.{Recovery, Message, Taken}
use Rattle.bits.specs.Words.{pick, among}
use Rattle.registers.specs.Layout.{at_status, at_diagnostic, at_nid}
use Rattle.registers.specs.Events.{risen_nid}
use Rattle.card.specs.Row.{regs_of, Whole}
use Rattle.card.specs.Moves.{OnlyAt}
use Rattle.std.proofs.Math.Bool.{or-false}
use Rattle.bits.proofs.Words.Bools.{or_left, or_right, pick_of, pick_both}
use Rattle.registers.proofs.Values.Keeps.{Keeps, keeps_same, keeps_recovered, keeps_heard, keeps_answered, keeps_risen}
use Rattle.card.proofs.Rows.Moves.{only_stays, only_wider, only_put}
use Rattle.card.proofs.Rows.Sizes.{whole_registers}
use Rattle.table.specs.Network.{phase, holder, LOST, PASS, TAKEN, on_regs, shape}
use Rattle.table.proofs.Shaped.Shapes.{shape_phase}
use Rattle.line.specs.Traffic.{happens}
use Rattle.line.specs.Outcomes.{row_moves}
use Rattle.line.proofs.Change.Changes.{Comes}

module _ (net : List ℕ) (s : shape net ≡ true) (j : ℕ) (aside : phase net ≡ TAKEN → j ≡ holder net → ⊥) where
  abbrev h : ℕ
  h = holder net

  abbrev Moves : Bool → List ℕ → List ℕ → Type 0
  Moves x = OnlyAt (row_moves net x j)

  taken : eqb (phase net) LOST ≡ false → eqb (phase net) PASS ≡ false → phase net ≡ TAKEN
  taken t u = omega (arith, shape_phase net s, eqb-false (phase net) LOST t, eqb-false (phase net) PASS u)

  -- outside LOST, diagnostic status
  heard_moves : (phase net ≡ LOST → ⊥) → (x : Bool) (i : ℕ) → row_moves net x j i ≡ false → among (at_diagnostic ∷ []) i ≡ false
  heard_moves n x i =
      let P : Bool → Type 0 = λ y. y ≡ false → among (at_diagnostic ∷ []) i ≡ false in
      let here : (y : Bool) → (eqb i at_diagnostic || y) ≡ false → among (at_diagnostic ∷ []) i ≡ false = λ y e. rw (or_left (eqb i at_diagnostic) y e) in
      pick_of P (eqb (phase net) LOST) (λ t. absurd (n (eqb-true (phase net) LOST t)))
      (λ t. pick_of P (eqb (phase net) PASS) (λ _. here _)
      (λ u. pick_of P (eqb j h) (λ v. absurd (aside (taken t u) (eqb-true j h v))) (λ _. here _)))

  -- an event
  pub event_moves : (e : Event) → Comes net e → (x : Bool) (r : List ℕ) → Whole r → Moves x r (on_regs (happens e j) r)
  event_moves Recovery a x r l =
      only_wider r _ (λ i e. rw (eq-eqb (phase net) LOST a) at e) (only_put (at_status ∷ at_nid ∷ []) r _ (whole_registers r l) (keeps_recovered _ (regs_of r) refl refl))
  event_moves (Message k token) a x r l =
      only_wider r _ (heard_moves a.1 x)
      (only_put (at_diagnostic ∷ []) r _ (whole_registers r l) (pick_of (Keeps (at_diagnostic ∷ []) (regs_of r)) (eqb j k) (λ _. keeps_same _ (regs_of r)) (λ _. keeps_heard _ (regs_of r) refl token)))
  event_moves (Taken n t) a x r l =
      only_wider r _ (heard_moves (λ e. omega (arith, a, e)) x) (only_put (at_diagnostic ∷ []) r _ (whole_registers r l) (keeps_answered _ (regs_of r) refl n (eqb j t)))

  -- the holder's NID rises in PASS
  pub rise_moves : phase net ≡ PASS → (x : Bool) (r : List ℕ) → Whole r → Moves x r (pick (eqb j h) (on_regs risen_nid r) r)
  rise_moves p x r l =
      pick_of (Moves x r) (eqb j h)
      (λ t. only_wider r _ (λ i e. let f : (eqb i at_diagnostic || eqb i at_nid) ≡ false = rw (p, t) at e in rw (or_right (eqb i at_diagnostic) (eqb i at_nid) f))
      (only_put (at_nid ∷ []) r _ (whole_registers r l) (keeps_risen _ (regs_of r) refl)))
      (λ _. only_stays _ r)

  -- a row that stores a packet may move all that another may
  pub stores_more : (i : ℕ) → row_moves net true j i ≡ false → row_moves net false j i ≡ false
  stores_more i =
      pick_both (λ (a b : Bool). a ≡ false → b ≡ false) (eqb (phase net) LOST) (λ e. e)
      (pick_both (λ (a b : Bool). a ≡ false → b ≡ false) (eqb (phase net) PASS) (λ e. e)
      (pick_both (λ (a b : Bool). a ≡ false → b ≡ false) (eqb j h) (λ e. e) (λ e. or-false (eqb i at_diagnostic) ∙ or_left (eqb i at_diagnostic) _ e)))
