-- Fault-free steps alone, as calls of a host.
-- Assumes nothing.
use mathlib.Core.Path.{◌≡◌, refl, ap}
use mathlib.Core.List.{List, [], ◌∷◌}
use Prim.Native.Nat.{ℕ, zero, suc, ◌+◌}
use native.Mathlib.Omega.{arith}
use Rattle.table.proofs.Access.Calm.{alike_nodes}
use Rattle.line.specs.Step.{step}
use Rattle.line.proofs.Steps.StepIs.{step_done}
use Rattle.line.proofs.Steps.View.{Alike, alike_then, any_step}
use Rattle.desk.specs.Lap.{after, answers}
use Rattle.desk.specs.Host.{Call, Step, table}
use Rattle.desk.specs.Demand.{answers_of, steps, Throughout}

-- ---- k fault-free steps, as calls of a host, and other calls after them
unfoldable pub step_calls : ℕ → List Call → List Call
step_calls zero l = l
step_calls (suc k) l = Step 0 ∷ step_calls k l

module _ (l : List Call) where
  pub table_steps : (k : ℕ) (net : List ℕ) → table (step_calls k l) net ≡ table l (after k net)
  unfolding step_calls table after
  table_steps zero net = refl
  table_steps (suc k) net = table_steps k (step net 0).after

  pub throughout_steps : (start : List ℕ) (k : ℕ) (net : List ℕ) → Alike start net → Throughout start l (after k net) → Throughout start (step_calls k l) net
  unfolding step_calls Throughout after
  throughout_steps start zero net a h = h
  throughout_steps start (suc k) net a h =
      let b = alike_then a (any_step net a.fits a.rams) in
      (λ _. refl, (alike_nodes b, throughout_steps start k (step net 0).after b h))

  module _ (start : List ℕ) where
    pub count_steps : (k : ℕ) (net : List ℕ) → Alike start net → steps (step_calls k l) net ≡ k + steps l (after k net)
    unfolding step_calls answers_of after
    count_steps zero net a = omega arith
    count_steps (suc k) net a =
        rw (step_done net a.fits) (omega (arith, count_steps k (step net 0).after (alike_then a (any_step net a.fits a.rams))))

module _ (start : List ℕ) where
  pub answers_steps : (k : ℕ) (net : List ℕ) → Alike start net → answers_of (step_calls k []) net ≡ answers k net
  unfolding step_calls answers_of answers
  answers_steps zero net a = refl
  answers_steps (suc k) net a =
      rw (step_done net a.fits) (ap ((step net 0).answer ∷◌) (answers_steps k (step net 0).after (alike_then a (any_step net a.fits a.rams))))

-- ---- nothing but the steps
module _ (k : ℕ) (net : List ℕ) (a : Alike net net) where
  pub table_only : table (step_calls k []) net ≡ after k net
  unfolding table
  table_only = table_steps [] k net

  pub count_only : steps (step_calls k []) net ≡ k
  unfolding answers_of
  count_only = omega (arith, count_steps [] net k net a)

  pub throughout_only : Throughout net (step_calls k []) net
  unfolding Throughout
  throughout_only = throughout_steps [] net k net a tt
