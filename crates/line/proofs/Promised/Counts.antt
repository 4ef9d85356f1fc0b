-- C-16: what a row counts after a step, by the step's answer: the NAKs to the transmit that waits in it, up to the limit.
-- Assumes nothing.
use mathlib.Core.Path.{◌≡◌, refl, ◌∙◌, ap}
use mathlib.Core.Bool.{Bool, true, false}
use mathlib.Core.List.{List}
use mathlib.Core.Logic.{⊎_elim}
use Prim.Native.Nat.{ℕ, ◌<◌}
use native.Mathlib.Omega.{arith}
use lib.Dec.{eqb, lit<}
use borrow.Author.Tests.{eqb-true, eqb-false}
use Rattle.bits.specs.Words.{pick, has, among}
use Rattle.bits.specs.Flags.{CANCEL}
use Rattle.registers.specs.Naks.{naks, up_to_limit}
use Rattle.registers.specs.Layout.{at_nak_low, at_nak_high}
use Rattle.registers.specs.Events.{cancelled}
use Rattle.registers.proofs.Values.Counts.{naks_cancelled, up_again, up_same}
use Rattle.registers.proofs.Values.FitNaks.{up_most}
use Rattle.std.proofs.lemmas.Bool.{cases_Bool}
use Rattle.bits.proofs.Words.Bools.{pick_of, pick_both}
use Rattle.card.proofs.Rows.Counts.{naks_kept}
use Rattle.table.specs.Rows.{row_at}
use Rattle.table.specs.Network.{rows, phase, holder, LOST, PASS, TAKEN, regs_at, shape}
use Rattle.table.proofs.Shaped.Shapes.{shape_phase}
use Rattle.table.proofs.Shaped.Alike.{Rams}
use Rattle.line.specs.declared.traffic.Outcome.{Outcome}
use Rattle.line.specs.declared.traffic.Outcome.TheVariants.{Nothing, Malformed, Broadcast, NoAnswer, Nak, Delivered, Unacknowledged}
use Rattle.line.specs.Answers.{Answer}
use Rattle.line.specs.Answers.{Refused, Quiet, Recovered, Passed, Unanswered, TokenLost, Held}
use Rattle.line.specs.Step.{step}
use Rattle.line.specs.Outcomes.{stores, storing_bytes, outcome_naks, step_naks}
use Rattle.line.proofs.Promised.TheHolder.{holder_left}
use Rattle.line.proofs.Promised.EveryRow.{step_moves, held, unheld_taken, held_taken}
use Rattle.line.proofs.Promised.Still.{unmoved}

-- a count that has stayed at the limit says as much
again : (o : Outcome) (m : ℕ) → up_to_limit (outcome_naks o (up_to_limit m)) ≡ up_to_limit (outcome_naks o m)
again Nothing m = up_same (up_to_limit m) (up_most m)
again Malformed m = refl
again (Broadcast s) m = refl
again NoAnswer m = refl
again (Nak r) m = up_again m
again (Delivered r s) m = refl
again (Unacknowledged r s stored) m = refl

module _ (net : List ℕ) (s : shape net ≡ true) (b : Rams net) (fault k : ℕ) (l : k < rows net) where
  abbrev new : List ℕ
  new = (step net fault).after

  low : (c : Bool) → among (storing_bytes c) at_nak_low ≡ false
  low true = refl
  low false = refl

  high : (c : Bool) → among (storing_bytes c) at_nak_high ≡ false
  high true = refl
  high false = refl

  -- a row that does not hold the token, or a step in another phase
  aside : (phase net ≡ TAKEN → k ≡ holder net → ⊥) → naks (regs_at new k) ≡ naks (regs_at net k)
  aside n =
      let not_mine : (x : Bool) → eqb (phase net) LOST ≡ false → eqb (phase net) PASS ≡ false → eqb k (holder net) ≡ true → x ≡ false
      = λ x t p h. absurd (n (omega (arith, shape_phase net s, eqb-false (phase net) LOST t, eqb-false (phase net) PASS p)) (eqb-true k (holder net) h)) in
      naks_kept (row_at net k) (row_at new k) (step_moves net s b fault k l)
      (unmoved at_nak_low (lit< tt) refl low net (stores net fault k) k (not_mine _)) (unmoved at_nak_high (lit< tt) refl high net (stores net fault k) k (not_mine _))

  module _ (m : ℕ) (e : naks (regs_at net k) ≡ up_to_limit m) where
    -- an answer that is not Held
    idle : held (step net fault).answer ≡ false → naks (regs_at new k) ≡ up_to_limit m
    idle n =
        ⊎_elim (λ (t : eqb (phase net) TAKEN ≡ true). ap (λ (x : List ℕ). naks (regs_at x k)) (unheld_taken net fault (eqb-true (phase net) TAKEN t) n) ∙ e)
        (λ (t : eqb (phase net) TAKEN ≡ false). aside (λ p _. eqb-false (phase net) TAKEN t p) ∙ e) (cases_Bool (eqb (phase net) TAKEN))

    own : (o : Outcome) → (step net fault).answer ≡ Held o → k ≡ holder net → naks (regs_at new k) ≡ up_to_limit (outcome_naks o (pick (has CANCEL (regs_at net k).transmit.oldest) 0 m))
    own o a h =
        let g = regs_at net k in
        let c : naks (cancelled g) ≡ up_to_limit (pick (has CANCEL g.transmit.oldest) 0 m) =
        naks_cancelled g ∙ pick_both (λ (x y : ℕ). x ≡ up_to_limit y) (has CANCEL g.transmit.oldest) refl e in
        rw (← h) at (holder_left net (held_taken net s fault o a) s b fault o a).counted
        ∙ ap (λ (x : ℕ). up_to_limit (outcome_naks o x)) c ∙ again o (pick (has CANCEL g.transmit.oldest) 0 m)

    by : (a : Answer) → (step net fault).answer ≡ a → naks (regs_at new k) ≡ up_to_limit (step_naks net k a m)
    by (Refused n) a = idle (ap held a)
    by Quiet a = idle (ap held a)
    by (Recovered r) a = idle (ap held a)
    by (Passed r) a = idle (ap held a)
    by (Unanswered i) a = idle (ap held a)
    by TokenLost a = idle (ap held a)
    by (Held o) a =
        pick_of (λ (x : ℕ). naks (regs_at new k) ≡ up_to_limit x) (eqb k (holder net)) (λ t. own o a (eqb-true k (holder net) t))
        (λ t. aside (λ _ h. eqb-false k (holder net) t h) ∙ e)

    pub step_naks_lem : naks (regs_at new k) ≡ up_to_limit (step_naks net k (step net fault).answer m)
    step_naks_lem = by (step net fault).answer refl
