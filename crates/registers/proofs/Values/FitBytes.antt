-- Registers that fit stay so when a byte is written, and when a side changes.
-- Assumes nothing.
use mathlib.Core.Path.{◌≡◌, refl, ◌∙◌}
use mathlib.Core.Bool.{true, false, ◌||◌}
use mathlib.Core.Logic.{⊎_elim}
use Prim.Native.Nat.{ℕ, ◌-◌}
use lib.Bits.{bit_and}
use lib.Dec.{eqb}
use Rattle.bits.specs.declared.way.Way.{Way}
use Rattle.bits.specs.declared.way.Way.TheVariants.{Transmit, Receive}
use Rattle.queues.specs.declared.queues.Side.{Side}
use Rattle.registers.specs.declared.regs.Regs.{Regs}
use Rattle.bits.specs.Words.{pick, clear, has, raise, lower}
use Rattle.bits.specs.Flags.{RI, TMA, TA, EXCNAK, LOW2, only, status_bits, diagnostic_bits, mask_bits, setup_bits, mode_bits}
use Rattle.registers.specs.Fields.{with_id, with_status, with_diagnostic, with_mask, with_setup, with_tentative, with_nid, with_high, with_low, with_mode, with_long, with_fetched}
use Rattle.registers.specs.Sides.{chaining, side_of, with_side}
use Rattle.registers.specs.Naks.{nak_limit, naks}
use Rattle.std.proofs.lemmas.Bool.{cases_Bool}
use Rattle.bits.proofs.Words.Masks.{lower_other, raise_other}
use Rattle.queues.proofs.Fits.{Fits, fits_status, fits_long}
use Rattle.queues.proofs.Apart.{Apart}
use Rattle.registers.proofs.Values.Fits.{Fit}

module _ (g : Regs) (f : Fit g) where
  -- ---- a byte that no other has to agree with
  pub fit_id : (v : ℕ) → Fit (with_id v g)
  fit_id v = search f

  pub fit_tentative : (v : ℕ) → Fit (with_tentative v g)
  fit_tentative v = search f

  pub fit_nid : (v : ℕ) → Fit (with_nid v g)
  fit_nid v = search f

  pub fit_fetched : (v : ℕ) → Fit (with_fetched v g)
  fit_fetched v = search f

  -- the diagnostic, but for EXCNAK
  pub fit_diagnostic : (v : ℕ) → only diagnostic_bits v ≡ true → clear EXCNAK v ≡ clear EXCNAK g.diagnostic → Fit (with_diagnostic v g)
  fit_diagnostic v e c =
      let x : pick (eqb (naks g) nak_limit) (has EXCNAK v) (clear EXCNAK v) ≡ true = rw c f.excess in
      search (f, e, x)

  pub fit_mask : (v : ℕ) → only mask_bits v ≡ true → Fit (with_mask v g)
  fit_mask v e = search (f, e)

  pub fit_setup : (v : ℕ) → only setup_bits v ≡ true → Fit (with_setup v g)
  fit_setup v e = search (f, e)

  pub fit_mode : (v : ℕ) → only mode_bits v ≡ true → Fit (with_mode v g)
  fit_mode v e = search (f, e)

  pub fit_pointer : (a b : ℕ) → only LOW2 a ≡ true → Fit (with_high a (with_low b g))
  fit_pointer a b e = search (f, e)

  -- a transmit that NAKs are counted of waits still
  counts_still : (s : ℕ) → (eqb (naks g) 0 ≡ false → clear TA g.status ≡ true → clear TA s ≡ true) → (eqb (naks g) 0 || clear TA s) ≡ true
  counts_still s e =
      ⊎_elim (λ (z : eqb (naks g) 0 ≡ true). rw z) (λ (z : eqb (naks g) 0 ≡ false). rw (z, e z (rw z at f.counts))) (cases_Bool (eqb (naks g) 0))

  -- ---- a side, where the change leaves the flags of the status that are not its own
  pub fit_side : (w : Way) (s : Side) → Fits w (chaining g) g.long s → ((m : ℕ) → Apart w m → clear m s.status ≡ clear m (side_of w g).status)
      → (eqb (naks g) 0 ≡ false → clear TA (side_of w g).status ≡ true → clear TA s.status ≡ true) → Fit (with_side w s g)
  fit_side Transmit s k left waits =
      let e = left (255 - status_bits) (refl, refl, refl, refl, refl) ∙ f.status in
      let r = fits_status Receive (side_of Receive g) f.receive s.status (left RI (refl, refl, refl, refl, refl)) in
      let n = counts_still s.status waits in
      search (f, e, k, r, n)
  fit_side Receive s k left waits =
      let e = left (255 - status_bits) (refl, refl) ∙ f.status in
      let t = fits_status Transmit (side_of Transmit g) f.transmit s.status (left TA (refl, refl), left TMA (refl, refl)) in
      let n = counts_still s.status waits in
      search (f, e, k, t, n)

  -- ---- long packets, where nothing waits
  pub fit_long : (l : ℕ) → only 1 l ≡ true → clear TA g.status ≡ false → clear RI g.status ≡ false → Fit (with_long l g)
  fit_long l e ta ri =
      let t = fits_long Transmit (side_of Transmit g) f.transmit ta l in
      let r = fits_long Receive (side_of Receive g) f.receive ri l in
      search (f, e, t, r)

  -- ---- flags that no rule speaks of, POR and RECON: such a flag is cleared, or set
  fit_status : (s : ℕ) → only status_bits s ≡ true → clear TA s ≡ clear TA g.status → clear RI s ≡ clear RI g.status
      → clear TMA s ≡ clear TMA g.status → Fit (with_status s g)
  fit_status s e ta ri tma =
      let t = fits_status Transmit (side_of Transmit g) f.transmit s (ta, tma) in
      let r = fits_status Receive (side_of Receive g) f.receive s ri in
      let n = counts_still s (λ _ c. ta ∙ c) in
      search (f, e, t, r, n)

  pub fit_lower : (m : ℕ) → bit_and (255 - m) (255 - status_bits) ≡ 255 - status_bits → bit_and (255 - m) TA ≡ TA → bit_and (255 - m) RI ≡ RI
      → bit_and (255 - m) TMA ≡ TMA → Fit (with_status (lower m g.status) g)
  fit_lower m e ta ri tma =
      fit_status (lower m g.status) (lower_other (255 - status_bits) m g.status e ∙ f.status) (lower_other TA m g.status ta)
      (lower_other RI m g.status ri) (lower_other TMA m g.status tma)

  pub fit_raise : (m : ℕ) → bit_and m (255 - status_bits) ≡ 0 → bit_and m TA ≡ 0 → bit_and m RI ≡ 0 → bit_and m TMA ≡ 0
      → Fit (with_status (raise m g.status) g)
  fit_raise m e ta ri tma =
      fit_status (raise m g.status) (raise_other (255 - status_bits) m g.status e ∙ f.status) (raise_other TA m g.status ta)
      (raise_other RI m g.status ri) (raise_other TMA m g.status tma)
