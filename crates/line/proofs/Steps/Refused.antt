-- A step's list of refusals rises, and so the smallest number wins; a refusal more, of networks that SHAPE refuses, would tell nothing. A refused step leaves the
-- network as it was, and gives nothing beside its number.
-- Assumes nothing.
use mathlib.Core.Path.{◌≡◌, refl, sym, ◌∙◌}
use mathlib.Core.Bool.{Bool, true, false}
use mathlib.Core.List.{List, [], ◌∷◌, ◌++◌}
use mathlib.Core.Logic.{⊎_elim}
use Prim.Native.Nat.{ℕ}
use lib.Dec.{eqb}
use borrow.Author.Tests.{ne_eqb, eqb-true, eqb-false}
use Rattle.std.proofs.lemmas.Bool.{cases_Bool}
use Rattle.told.specs.Numbers.{DONE, ◌when◌, told, Smallest}
use Rattle.told.proofs.Told.Smallest.{refuse_passed, told_first, told_second, smallest}
use Rattle.table.specs.Network.{shape}
use Rattle.line.specs.Step.{step_refusals, step_number, step, answer_number, answer_value}
use Rattle.line.proofs.Steps.Stepped.{step_shape, answer_number_lem}

module _ (net : List ℕ) (fault : ℕ) where
  pub step_smallest : Smallest (step_refusals net fault) (answer_number (step net fault).answer)
  unfolding step_number step_refusals
  step_smallest = rw (answer_number_lem net fault) (smallest (step_refusals net fault) refl)

  -- n is its number, and t its test
  pub step_shadowed : (n : ℕ) (t : Bool) → (shape net ≡ true → t ≡ false) → told (step_refusals net fault ++ (n when t ∷ [])) ≡ answer_number (step net fault).answer
  unfolding step_number
  step_shadowed n t never =
      let l = step_refusals net fault in
      let more = n when t ∷ [] in
      ⊎_elim (λ e. let z = eqb-true (told l) DONE e in told_second l more z ∙ refuse_passed DONE n t (never (step_shape net fault (told l) refl z)) ∙ sym z)
      (λ e. told_first l more (eqb-false (told l) DONE e)) (cases_Bool (eqb (told l) DONE))
      ∙ sym (answer_number_lem net fault)

  pub step_refused : (answer_number (step net fault).answer ≡ 0 → ⊥) → ((step net fault).after ≡ net) × (answer_value (step net fault).answer ≡ 0)
  unfolding step
  step_refused n =
      let f = ne_eqb (step_number net fault) 0 (λ z. n (answer_number_lem net fault ∙ z)) in
      (rw f, rw f)
