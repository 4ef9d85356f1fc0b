-- The public step: its refusals, and the step of a network that SHAPE does not refuse.
-- Assumes nothing.
use mathlib.Core.Path.{◌≡◌, refl, sym, ◌∙◌}
use mathlib.Core.Bool.{true}
use mathlib.Core.List.{List}
use mathlib.Core.Logic.{⊎_elim}
use Prim.Native.Nat.{ℕ, ◌<◌}
use native.Mathlib.Omega.{arith}
use borrow.Author.Tests.{eq-eqb, eqb-true, eqb-false, not-false}
use lib.Dec.{eqb, ltb}
use Rattle.line.specs.Answers.{Answer}
use Rattle.told.specs.Numbers.{SHAPE}
use Rattle.std.proofs.lemmas.Bool.{cases_Bool}
use Rattle.bits.proofs.Words.Bools.{pick_of}
use Rattle.told.proofs.Told.Smallest.{none_refuses}
use Rattle.table.specs.Network.{rows, phase, holder, LOST, PASS, top_id, shape}
use Rattle.line.specs.Traffic.{Turn}
use Rattle.line.specs.Step.{destroyed, taker, lost_turn, pass_turn, step_refusals, step_number, step_turn, step, answer_number}
use Rattle.table.proofs.Shaped.Shapes.{shape_rows, shape_holder, shape_lost}

-- in every phase the holder's byte names a row
pub held_row : (net : List ℕ) → shape net ≡ true → holder net < rows net
held_row net s =
    ⊎_elim (λ e. omega (arith, shape_lost net s (eqb-true (phase net) LOST e), (shape_rows net s).0)) (λ e. (shape_holder net s (eqb-false (phase net) LOST e)).0)
    (cases_Bool (eqb (phase net) LOST))

module _ (net : List ℕ) (fault : ℕ) where
  module _ (k : ℕ) (number_is : k ≡ step_number net fault) where
    pub step_shape : k ≡ 0 → shape net ≡ true
    unfolding step_number step_refusals
    step_shape z = not-false (shape net) (none_refuses (step_refusals net fault) refl (sym number_is ∙ z) SHAPE)

    -- where no refusal holds, the step's answer and bytes are the turn's
    pub steps : k ≡ 0 → (a : Answer) (y : List ℕ) → (a ≡ (step_turn net fault).answer) × (y ≡ (step_turn net fault).after)
        → (a ≡ (step net fault).answer) × (y ≡ (step net fault).after)
    unfolding step
    steps z a y e = (rw (← number_is, eq-eqb _ _ z) e.0, rw (← number_is, eq-eqb _ _ z) e.1)

-- ---- the number of what a step answers is that of its refusals
abbrev Done : Turn Answer → Type 0
Done t = answer_number t.answer ≡ 0

answer_done : (net : List ℕ) (fault : ℕ) → Done (step_turn net fault)
unfolding step_turn lost_turn pass_turn
answer_done net fault =
    pick_of Done (eqb (phase net) LOST) (λ _. pick_of Done (eqb (top_id net (rows net)) 0) (λ _. refl) (λ _. refl))
    (λ _. pick_of Done (eqb (phase net) PASS)
    (λ _. pick_of Done (destroyed fault) (λ _. refl) (λ _. pick_of Done (ltb (taker net) (rows net)) (λ _. refl) (λ _. refl))) (λ _. refl))

pub answer_number_lem : (net : List ℕ) (fault : ℕ) → answer_number (step net fault).answer ≡ step_number net fault
unfolding step
answer_number_lem net fault =
    pick_of (λ (t : Turn Answer). answer_number t.answer ≡ step_number net fault) (eqb (step_number net fault) 0)
    (λ e. answer_done net fault ∙ sym (eqb-true _ _ e)) (λ _. refl)
