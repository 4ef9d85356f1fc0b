-- The holder's registers as each outcome leaves them: TA, TMA, TTA and byte 13; and those of a row with CCHEN 0.
-- Assumes nothing.
use mathlib.Core.Path.{◌≡◌, refl, sym, ◌∙◌, ap}
use mathlib.Core.Bool.{Bool, true, false}
use Prim.Native.Nat.{ℕ}
use Rattle.registers.specs.declared.regs.Regs.{Regs}
use Rattle.line.specs.declared.traffic.Outcome.{Outcome}
use Rattle.line.specs.declared.traffic.Outcome.TheVariants.{Nothing, Malformed, Broadcast, NoAnswer, Nak, Delivered, Unacknowledged}
use Rattle.bits.specs.Words.{pick, has}
use Rattle.bits.specs.Flags.{TMA, CCHEN}
use Rattle.queues.specs.Queues.{uncleared}
use Rattle.registers.specs.Sides.{chaining, tta}
use Rattle.registers.specs.Naks.{naks, up_to_limit, nak_counted}
use Rattle.registers.specs.Events.{heard, cancelled, sent, transmitting}
use Rattle.std.proofs.Math.Bool.{and-true, and-false, or-false}
use Rattle.registers.proofs.Values.Fits.{Fit, rules_fit}
use Rattle.registers.proofs.Values.FitEvents.{fit_cancelled, fit_heard}
use Rattle.registers.proofs.Values.SameCard.{same_cancelled}
use Rattle.registers.proofs.Values.Ends.{enquired_nak, enquired_unanswered, is_sent, heard_status, heard_transmit, heard_chaining, waits, idle, nothing_up, cancelled_tma, cancelled_tta}
use Rattle.registers.proofs.Values.Counts.{naks_sent, naks_refused, up_same, few_naks}
use Rattle.registers.proofs.Values.Unqueued.{unqueued_fit, unqueued_cancelled}
use Rattle.table.proofs.Folds.{clash}
use Rattle.line.specs.Outcomes.{outcome_ta, outcome_tma, completes, holder_after, outcome_naks, HolderLeft, PlainLeft}
use Rattle.line.proofs.Turn.Says.{tried}

module _ (was : Regs) (f : Fit was) where
  abbrev after_cancels : Regs
  after_cancels = cancelled was

  -- a transmit that ended, of registers that an answer was heard by or not
  left_sent : (g : Regs) → Fit g → g.status ≡ after_cancels.status → g.transmit ≡ after_cancels.transmit → chaining g ≡ chaining after_cancels
      → (a : Bool) (o : Outcome) → sent g a ≡ holder_after o was → (outcome_ta o ≡ true) × (completes o ≡ true) → ((b : Bool) → outcome_tma o b ≡ a)
      → ((m : ℕ) → outcome_naks o m ≡ 0) → HolderLeft was (sent g a) o
  left_sent g fg es et ec a o i e t n =
      let d = is_sent g fg a in
      let c : chaining g ≡ chaining was = ec ∙ ap (has CCHEN) (same_cancelled was).configuration in
      let u : tta g ≡ tta was = ap uncleared et ∙ cancelled_tta was in
      record {
        registers = i;
        ta = d.ta ∙ rw (et, e.0);
        tma = d.tma ∙ rw (u, es, cancelled_tma was, t (has TMA was.status));
        page = λ _. d.page ∙ rw et;
        told = d.told ∙ rw (u, c, e.1, and-true (chaining was));
        counted = naks_sent g a ∙ sym (ap up_to_limit (n (naks after_cancels)));
      }

  left_heard : (a : Bool) (o : Outcome) → sent (heard after_cancels false) a ≡ holder_after o was → (outcome_ta o ≡ true) × (completes o ≡ true) → ((b : Bool) → outcome_tma o b ≡ a)
      → ((m : ℕ) → outcome_naks o m ≡ 0) → HolderLeft was (sent (heard after_cancels false) a) o
  left_heard =
      left_sent (heard after_cancels false) (fit_heard after_cancels (fit_cancelled was f) false) (heard_status after_cancels false) (heard_transmit after_cancels false)
      (heard_chaining after_cancels false)

  pub left_by : (o : Outcome) → transmitting after_cancels ≡ tried o → HolderLeft was (holder_after o was) o
  left_by Nothing e =
      let d = idle after_cancels fits e in
      record {
        registers = refl;
        ta = rw d.1.1 d.0;
        tma = cancelled_tma was ∙ sym (either (tta was) (has TMA was.status));
        page = λ _. d.1.0 ∙ nothing_up after_cancels fits d.1.1;
        told = cancelled_tta was ∙ rw (and-false (chaining was), or-false (tta was));
        counted = sym (up_same (naks after_cancels) (few_naks after_cancels fits));
      }
    where
      fits : Fit after_cancels
      fits = fit_cancelled was f

      either : (b x : Bool) → pick b x x ≡ x
      either true x = refl
      either false x = refl
  left_by Malformed e = left_sent after_cancels (fit_cancelled was f) refl refl refl false Malformed refl (refl, refl) (λ b. refl) (λ m. refl)
  left_by (Broadcast s) e = left_sent after_cancels (fit_cancelled was f) refl refl refl false (Broadcast s) refl (refl, refl) (λ b. refl) (λ m. refl)
  left_by NoAnswer e =
      rw (enquired_unanswered after_cancels)
      (left_sent after_cancels (fit_cancelled was f) refl refl refl false NoAnswer (sym (enquired_unanswered after_cancels)) (refl, refl) (λ b. refl) (λ m. refl))
  left_by (Nak r) e =
      let d = waits after_cancels (fit_cancelled was f) e in
      let i = heard_status (nak_counted after_cancels) false in
      let u = cancelled_tta was in
      rw (enquired_nak after_cancels) (record {
        registers = sym (enquired_nak after_cancels);
        ta = rw i d.0;
        tma = rw i (kept (tta was) (cancelled_tma was) (λ n. d.1 (u ∙ n)));
        page = λ z. absurd (clash z refl);
        told = ap uncleared (heard_transmit (nak_counted after_cancels) false) ∙ u ∙ rw (and-false (chaining was), or-false (tta was));
        counted = rw (enquired_nak after_cancels) at (naks_refused after_cancels);
      })
    where
      kept : (b : Bool) {x y : Bool} → x ≡ y → (b ≡ false → x ≡ false) → x ≡ pick b y false
      kept true e n = e
      kept false e n = n refl
  left_by (Delivered r s) e = left_heard true (Delivered r s) refl (refl, refl) (λ b. refl) (λ m. refl)
  left_by (Unacknowledged r s stored) e = left_heard false (Unacknowledged r s stored) refl (refl, refl) (λ b. refl) (λ m. refl)

-- ---- with CCHEN 0 no second waits and no end is kept
pub plain_left : (was h : Regs) (o : Outcome) → Fit was → chaining was ≡ false → HolderLeft was h o → PlainLeft was h o
plain_left was h o f c l =
    let u = unqueued_fit was c (rules_fit was f) in
    let v = unqueued_cancelled was u in
    record {
      ta = l.ta ∙ rw (v.transmit.second, and-true (outcome_ta o));
      tma = l.tma ∙ rw u.transmit.done;
      page = λ e. l.page e ∙ rw v.transmit.second;
    }
