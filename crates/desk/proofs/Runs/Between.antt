-- A call that may come between the steps of a lap is a fault-free step, or it leaves the token where it is and no step has answered.
-- Assumes nothing.
use mathlib.Core.Path.{◌≡◌, refl}
use mathlib.Core.Bool.{true}
use mathlib.Core.List.{List}
use Prim.Native.Nat.{ℕ, zero, suc}
use native.Mathlib.Omega.{arith}
use borrow.Author.Tests.{ne_eqb}
use Rattle.table.specs.Network.{shape, SameNodes}
use Rattle.table.proofs.Shaped.Alike.{Rams}
use Rattle.table.proofs.Access.Refused.{timer_refused}
use Rattle.table.proofs.Access.Calm.{Calm, calm_same, calm_read, calm_write, calm_reset}
use Rattle.line.specs.Answers.{Answer}
use Rattle.line.specs.Step.{step, answer_number}
use Rattle.line.proofs.Steps.Refused.{step_refused}
use Rattle.desk.specs.Lap.{lapped}
use Rattle.desk.specs.Host.{Call, At, Read, Write, Reset, Timer, Interrupt, Data, DataNumber, Step, Lap, replied, called, reply_number}
use Rattle.desk.specs.Demand.{Between, with_step}
use Rattle.desk.proofs.Lapping.LapLeaves.{walk_refused}

pub data MayCome (net : List ℕ) : Call → Type 0 where
  stepping : MayCome net (Step 0)
  calmly : {c : Call} → Calm net (called c net) → ((l : List Answer) → with_step (replied c net) l ≡ l) → MayCome net c

module _ (net : List ℕ) (s : shape net ≡ true) (b : Rams net) where
  -- a call that changes nothing
  idle : (c : Call) → called c net ≡ net → ((l : List Answer) → with_step (replied c net) l ≡ l) → MayCome net c
  idle c e w = calmly {c = c} (rw e (calm_same net s b)) w

  pub comes : (c : Call) → (reply_number (replied c net) ≡ 0 → Between c) → SameNodes net (called c net) → MayCome net c
  unfolding lapped
  comes (At k (Read g)) h n = calmly (calm_read net s b k g) (λ l. refl)
  comes (At k (Write g v x)) h n = calmly (calm_write net s b k g v x n) (λ l. refl)
  comes (At k Reset) h n = calmly (calm_reset net s b k n) (λ l. refl)
  comes (At k Timer) h n = idle (At k Timer) (timer_refused net k h) (λ l. refl)
  comes (At k Interrupt) h n = idle (At k Interrupt) refl (λ l. refl)
  comes (At k (Data p)) h n = idle (At k (Data p)) refl (λ l. refl)
  comes (At k (DataNumber p)) h n = idle (At k (DataNumber p)) refl (λ l. refl)
  comes (Step zero) h n = stepping
  comes (Step (suc f)) h n =
      let r : answer_number (step net (suc f)).answer ≡ 0 → ⊥ = λ z. let e = h z in omega arith in
      idle (Step (suc f)) (step_refused net (suc f) r).0 (λ l. rw (ne_eqb (answer_number (step net (suc f)).answer) 0 r))
  comes (Lap room) h n = idle (Lap room) (walk_refused net room h).1.0 (λ l. refl)
