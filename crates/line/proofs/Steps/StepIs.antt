-- What one fault-free line step of a well formed network is, phase by phase.
-- Assumes nothing.
use mathlib.Core.Path.{◌≡◌, refl, sym, ◌∙◌, ap}
use mathlib.Core.Bool.{true, false, not}
use mathlib.Core.List.{List}
use Prim.Native.Nat.{ℕ, ◌≤◌, ◌<◌}
use lib.Dec.{eqb, ltb}
use borrow.Author.Tests.{eq-eqb, ne_eqb, ltb-true, lt-ltb, le-ltb}
use Rattle.line.specs.declared.passes.Event.TheVariants.{Recovery, Message, Taken}
use Rattle.line.specs.Answers.{Answer}
use Rattle.line.specs.Answers.{Recovered, Passed, Unanswered}
use Rattle.told.specs.Numbers.{DONE, SHAPE, VALUE}
use Rattle.told.proofs.Told.Smallest.{refuse_passed}
use Rattle.registers.specs.Events.{risen_nid}
use Rattle.bits.proofs.Words.Bools.{pick_of}
use Rattle.table.specs.Network.{rows, phase, holder, LOST, PASS, TAKEN, turned, top_id, shape}
use Rattle.line.specs.Traffic.{Turn, on_row, happened, taken_turn}
use Rattle.line.specs.Step.{highest, lost_turn, invited, taker, pass_turn, held, step_turn, step_refusals, step_number, step, answer_number, answer_value}
use Rattle.table.proofs.Folds.{clash}
use Rattle.line.proofs.Steps.Stepped.{answer_number_lem}

-- every other row hears the invitation
abbrev pub invitation : List ℕ → List ℕ
invitation net = happened net (Message (holder net) true)

module _ (net : List ℕ) (s : shape net ≡ true) where
  -- the step is not refused
  number_is : step_number net 0 ≡ 0
  unfolding step_number step_refusals
  number_is = rw (refuse_passed DONE SHAPE (not (shape net)) (ap not s), refuse_passed DONE VALUE false refl)

  pub step_done : answer_number (step net 0).answer ≡ 0
  step_done = answer_number_lem net 0 ∙ number_is

  pub step_is : step net 0 ≡ step_turn net 0
  unfolding step
  step_is = rw number_is

  pub lost_is : phase net ≡ LOST → (top_id net (rows net) ≡ 0 → ⊥)
      → step net 0 ≡ record { answer = Recovered (highest net); after = turned (happened net Recovery) PASS (highest net) }
  unfolding step_turn lost_turn
  lost_is p ne = step_is ∙ rw (eq-eqb _ _ p, ne_eqb _ _ ne)

  pass_is : phase net ≡ PASS → step net 0 ≡ pass_turn net 0
  unfolding step_turn
  pass_is p = step_is ∙ rw p

  pub held_is : phase net ≡ TAKEN → step net 0 ≡ held (taken_turn net (holder net) 0) (holder net)
  unfolding step_turn
  held_is p = step_is ∙ rw p

  pub taker_is : phase net ≡ PASS → taker net < rows net
      → step net 0 ≡ record { answer = Passed (taker net); after = turned (happened (invitation net) (Taken (invited net) (taker net))) TAKEN (taker net) }
  unfolding pass_turn
  taker_is p l = pass_is p ∙ rw (lt-ltb _ _ l)

  pub none_is : phase net ≡ PASS → rows net ≤ taker net → step net 0 ≡ record { answer = Unanswered (invited net); after = on_row (invitation net) (holder net) risen_nid }
  unfolding pass_turn
  none_is p l = pass_is p ∙ rw (le-ltb _ _ l)

-- ---- the row that an answer names as the taker
abbrev Names : List ℕ → ℕ → Turn Answer → Type 0
Names net r t = t.answer ≡ Passed r → r < rows net

passed_turn : (net : List ℕ) (r : ℕ) → Names net r (step_turn net 0)
unfolding step_turn lost_turn pass_turn
passed_turn net r =
    pick_of (Names net r) (eqb (phase net) LOST)
    (λ _. pick_of (Names net r) (eqb (top_id net (rows net)) 0) (λ _ q. absurd (clash {b = true} refl cc)) (λ _ q. absurd (clash {b = true} refl cc)))
    (λ _. pick_of (Names net r) (eqb (phase net) PASS)
    (λ _. pick_of (Names net r) (ltb (taker net) (rows net)) (λ t q. rw (← ap answer_value q) (ltb-true (taker net) (rows net) t)) (λ _ q. absurd (clash {b = true} refl cc)))
    (λ _ q. absurd (clash {b = true} refl cc)))

pub passed_is : (net : List ℕ) → shape net ≡ true → (r : ℕ) → (step net 0).answer ≡ Passed r → r < rows net
passed_is net s r a = passed_turn net r (ap (λ (t : Turn Answer). t.answer) (sym (step_is net s)) ∙ a)
