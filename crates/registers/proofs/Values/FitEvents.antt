-- Registers that fit stay so through what the line does to them.
-- Assumes nothing.
use mathlib.Core.Path.{◌≡◌, refl, ◌∙◌}
use mathlib.Core.Bool.{Bool, true, false, not, ◌&&◌, true≢false}
use Prim.Native.Nat.{ℕ, ◌+◌, ◌-◌, ◌%◌}
use lib.Bits.{bit_and}
use lib.Dec.{eqb}
use Rattle.bits.specs.declared.way.Way.TheVariants.{Transmit, Receive}
use Rattle.registers.specs.declared.regs.Regs.{Regs}
use Rattle.bits.specs.Words.{pick, clear, has, raise_if}
use Rattle.bits.specs.Flags.{RECON, TA, MYRECON, DUPID, RCVACT, TOKEN, EXCNAK, TENTID, CANCEL, diagnostic_bits}
use Rattle.registers.specs.Fields.{with_status, with_diagnostic, with_nid}
use Rattle.registers.specs.Sides.{chaining, side_of}
use Rattle.registers.specs.Naks.{naks, nak_counted, naks_dropped}
use Rattle.registers.specs.Fit.{awake, on_line}
use Rattle.registers.specs.Events.{burst, recovered, heard, answered, risen_nid, received, transmit_cancelled, receive_cancelled, cancelled, sent, enquired, transmitting}
use Rattle.bits.proofs.Words.Bools.{pick_of}
use Rattle.bits.proofs.Words.Masks.{raise_other}
use Rattle.queues.proofs.Changes.{fits_ended, fits_cancelled}
use Rattle.queues.proofs.Apart.{ended_apart, cancelled_apart}
use Rattle.queues.proofs.Waits.{unmarked_waits}
use Rattle.registers.proofs.Values.Fits.{Fit}
use Rattle.registers.proofs.Values.FitBytes as keeps
use Rattle.registers.proofs.Values.FitNaks.{fit_counted, fit_dropped}

-- a diagnostic flag, not EXCNAK, is set where b says so
seen : (g : Regs) → Fit g → (b : Bool) (m : ℕ) → bit_and m (255 - diagnostic_bits) ≡ 0 → bit_and m EXCNAK ≡ 0 → Fit (with_diagnostic (raise_if b m g.diagnostic) g)
seen g f true m h x = keeps.fit_diagnostic g f _ (raise_other (255 - diagnostic_bits) m g.diagnostic h ∙ f.diagnostic) (raise_other EXCNAK m g.diagnostic x)
seen g f false m h x = f

module _ (g : Regs) (f : Fit g) where
  pub fit_burst : Fit (burst g)
  unfolding burst
  fit_burst = seen g f true MYRECON refl refl

  pub fit_heard : (t : Bool) → Fit (heard g t)
  unfolding heard
  fit_heard t = seen (with_diagnostic (raise_if (awake g) RCVACT g.diagnostic) g) (seen g f (awake g) RCVACT refl refl) (awake g && t) TOKEN refl refl

  pub fit_answered : (n : ℕ) (t : Bool) → Fit (answered g n t)
  unfolding answered
  fit_answered n t =
      let own = awake g && eqb g.id n in
      seen (with_diagnostic (raise_if own DUPID g.diagnostic) g) (seen g f own DUPID refl refl) (awake g && not t && eqb g.tentative n) TENTID refl refl

  pub fit_recovered : Fit (recovered g)
  unfolding recovered
  fit_recovered =
      let h = keeps.fit_nid g f (pick (on_line g) g.id g.nid) in
      pick_of (λ (s : ℕ). Fit (with_status s (with_nid (pick (on_line g) g.id g.nid) g))) (awake g)
      (λ _. keeps.fit_raise (with_nid (pick (on_line g) g.id g.nid) g) h RECON refl refl refl refl) (λ _. h)

  pub fit_risen : Fit (risen_nid g)
  unfolding risen_nid
  fit_risen = keeps.fit_nid g f ((g.nid + 1) % 256)

  -- ---- the ends, and the cancels
  pub fit_received : Fit (received g)
  unfolding received
  fit_received =
      let s = side_of Receive g in
      keeps.fit_side g f Receive _ (fits_ended Receive s f.receive false) (λ m p. ended_apart Receive m p s (chaining g) false) (λ _ t. ended_apart Receive TA (refl, refl) s (chaining g) false ∙ t)

  pub fit_sent : (a : Bool) → Fit (sent g a)
  unfolding sent
  fit_sent a =
      let s = side_of Transmit g in
      keeps.fit_side (naks_dropped true g) (fit_dropped g f true) Transmit _ (fits_ended Transmit s f.transmit a) (λ m p. ended_apart Transmit m p s (chaining g) a)
      (λ z _. absurd (true≢false z))

  -- NAKs are kept of a transmit that is not cancelled, which waits on
  transmit_cancelled_lem : Fit (transmit_cancelled g)
  transmit_cancelled_lem =
      let s = side_of Transmit g in
      let marked = has CANCEL g.transmit.oldest in
      keeps.fit_side (naks_dropped marked g) (fit_dropped g f marked) Transmit _ (fits_cancelled Transmit s f.transmit) (λ m p. cancelled_apart Transmit m p s)
      (λ z t. unmarked_waits s t (kept (clear CANCEL g.transmit.oldest) z))
    where
      kept : (b : Bool) → eqb (naks (naks_dropped (not b) g)) 0 ≡ false → b ≡ true
      kept true z = refl
      kept false z = absurd (true≢false z)

  receive_cancelled_lem : Fit (receive_cancelled g)
  receive_cancelled_lem =
      let s = side_of Receive g in
      keeps.fit_side g f Receive _ (fits_cancelled Receive s f.receive) (λ m p. cancelled_apart Receive m p s) (λ _ t. cancelled_apart Receive TA (refl, refl) s ∙ t)

pub fit_cancelled : (g : Regs) → Fit g → Fit (cancelled g)
unfolding cancelled
fit_cancelled g f = receive_cancelled_lem (transmit_cancelled g) (transmit_cancelled_lem g f)

-- an enquiry for a packet that waits
pub fit_enquired : (g : Regs) → Fit g → (nak : Bool) → transmitting g ≡ true → Fit (enquired g nak)
unfolding enquired transmitting
fit_enquired g f true t = fit_heard (nak_counted g) (fit_counted g f t) false
fit_enquired g f false t = fit_sent g f false
