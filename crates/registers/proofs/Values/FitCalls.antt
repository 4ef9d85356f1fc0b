-- Registers that fit stay so through a reset, a read, and a write that is not refused.
-- Assumes nothing.
use mathlib.Core.Path.{◌≡◌, refl, ap}
use mathlib.Core.Bool.{Bool, true, false, not, ◌&&◌, ◌||◌}
use Prim.Native.Nat.{ℕ, ◌-◌, ◌/◌, ◌%◌, ◌<◌}
use native.Mathlib.Omega.{arith}
use borrow.Author.Tests.{eq-eqb, eqb-true, eqb-false, not-false}
use lib.Bits.{bit_and}
use lib.Dec.{eqb, ltb}
use Rattle.bits.specs.declared.way.Way.TheVariants.{Transmit, Receive}
use Rattle.queues.specs.declared.queues.Side.{Side}
use Rattle.registers.specs.declared.regs.Regs.{Regs}
use Rattle.bits.specs.Words.{clear, has}
use Rattle.bits.specs.Flags.{RI, TA, EXCNAK, LOW2, AUTO_INC, RESET, CCHEN, only, diagnostic_bits, mask_bits, setup_bits, mode_bits}
use Rattle.registers.specs.Fields.{with_configuration}
use Rattle.registers.specs.Sides.{chaining, side_of}
use Rattle.registers.specs.Fit.{fit}
use Rattle.commands.specs.Commands.{command_of, illegal}
use Rattle.registers.specs.Registers.{sub, risen, stepped, read_fetches, write_fetches, fetched, after_read, hardware_reset, changes_chaining, configured, seventh_written, after_write}
use Rattle.told.specs.Numbers.{REGISTER, VALUE, BUSY, PAGE, refuses}
use Rattle.registers.specs.Refusals.{no_register, bad_value, busy, chain_busy, write_refusals, write_number}
use Rattle.bits.proofs.Words.Bools.{or_left, or_right, or_four, pick_of}
use Rattle.bits.proofs.Words.Masks.{lower_clears, lower_other}
use Rattle.queues.proofs.Fits.{Fits, fits_none}
use Rattle.told.proofs.Told.Smallest.{none_refuses}
use Rattle.bits.proofs.Words.Table.{low2}
use Rattle.registers.proofs.Values.Fits.{Fit, rules_fit}
use Rattle.registers.proofs.Values.FitBytes as keeps
use Rattle.registers.proofs.Values.FitCommands.{fit_commanded}
use Rattle.commands.proofs.Carried.{small}

module _ (g : Regs) (f : Fit g) where
  abbrev t : Side
  t = side_of Transmit g

  abbrev r : Side
  r = side_of Receive g

  fit_stepped : Fit (stepped g)
  unfolding stepped
  fit_stepped =
      let h : risen g / 256 < 4 = omega arith in
      pick_of Fit (has AUTO_INC g.mode)
      (λ e. keeps.fit_pointer g f (risen g / 256) (risen g % 256) (low2 LOW2 refl refl refl refl (risen g / 256) h)) (λ e. f)

  -- a configuration with the same CCHEN; with another, where nothing waits; with RESET
  fit_configured : (v : ℕ) → chain_busy g v ≡ false → Fit (configured g v)
  unfolding configured
  fit_configured v b =
      pick_of (λ (h : Regs). Fit (with_configuration v h)) (clear RESET v)
      (λ _. pick_of (λ (h : Regs). Fit (with_configuration v h)) (changes_chaining g v)
      (λ c. let n : (clear TA g.status || clear RI g.status) ≡ false = rw c at b in
      let x = fits_none Transmit (has CCHEN v) g.long g.status (or_left (clear TA g.status) (clear RI g.status) n) in
      let y = fits_none Receive (has CCHEN v) g.long g.status (or_right (clear TA g.status) (clear RI g.status) n) in
      search (f, x, y))
      (λ c. let e : has CCHEN v ≡ chaining g = ap (λ (x : ℕ). not (eqb x 0)) (eqb-true (bit_and v CCHEN) (bit_and g.configuration CCHEN) (not-false _ c)) in
      let x : Fits Transmit (has CCHEN v) g.long t = rw e f.transmit in
      let y : Fits Receive (has CCHEN v) g.long r = rw e f.receive in
      search (f, x, y)))
      (λ _. let x = fits_none Transmit (has CCHEN v) 0 0x91 refl in let y = fits_none Receive (has CCHEN v) 0 0x91 refl in search (f, x, y))

  fit_seventh : (v : ℕ) → eqb (sub g) 3 ≡ false → (eqb (sub g) 2 && not (only setup_bits v)) ≡ false → Fit (seventh_written g v)
  unfolding seventh_written
  fit_seventh v r e =
      pick_of Fit (eqb (sub g) 0) (λ _. keeps.fit_tentative g f v)
      (λ a. pick_of Fit (eqb (sub g) 1) (λ _. keeps.fit_id g f v)
      (λ b. keeps.fit_setup g f v (setup (eqb-false _ _ a) (eqb-false _ _ b))))
    where
      setup : (sub g ≡ 0 → ⊥) → (sub g ≡ 1 → ⊥) → only setup_bits v ≡ true
      setup a b =
          let two : sub g ≡ 2 = omega (arith, eqb-false (sub g) 3 r) in
          not-false _ (rw (eq-eqb _ _ two) at e)

  -- a read, and a write that is not refused
  pub fit_read : (k m : ℕ) → Fit (fetched (read_fetches g k) m (after_read g k))
  unfolding after_read
  fit_read k m =
      keeps.fit_fetched (after_read g k)
      (pick_of Fit (eqb k 1) (λ _. keeps.fit_diagnostic g f _ (lower_clears (255 - diagnostic_bits) (255 - EXCNAK) g.diagnostic refl) (lower_other EXCNAK (255 - EXCNAK) g.diagnostic refl)) (λ _. pick_of Fit (eqb k 4) (λ _. fit_stepped) (λ _. f))) _

  module _ (k v : ℕ) (e : write_number g k v ≡ 0) where
    none : (n : ℕ) → refuses (write_refusals g k v) n ≡ false
    unfolding write_refusals
    none = none_refuses (write_refusals g k v) refl e

    abbrev unnamed_mask : Bool
    unnamed_mask = eqb k 0 && not (only mask_bits v)

    abbrev no_command : Bool
    no_command = eqb k 1 && illegal (chaining g) (command_of v)

    abbrev unnamed_mode : Bool
    unnamed_mode = eqb k 2 && not (only mode_bits v)

    abbrev unnamed_setup : Bool
    unnamed_setup = eqb k 7 && eqb (sub g) 2 && not (only setup_bits v)

    good : (unnamed_mask ≡ false) × (no_command ≡ false) × (unnamed_mode ≡ false) × (unnamed_setup ≡ false)
    unfolding write_refusals bad_value
    good = or_four unnamed_mask no_command unnamed_mode unnamed_setup (none VALUE)

    abbrev starts : Bool
    starts = eqb k 1 && busy g (command_of v)

    abbrev rechains : Bool
    rechains = eqb k 6 && chain_busy g v

    idle : (starts ≡ false) × (rechains ≡ false)
    unfolding write_refusals
    idle = (or_left starts rechains (none BUSY), or_right starts rechains (none BUSY))

    known : (eqb k 7 && eqb (sub g) 3) ≡ false
    unfolding write_refusals no_register
    known = or_right (ltb 7 k || eqb k 5) (eqb k 7 && eqb (sub g) 3) (none REGISTER)

    at_seven : k ≡ 7 → Fit (seventh_written g v)
    at_seven i = fit_seventh v (rw (eq-eqb _ _ i) at known) (rw (eq-eqb _ _ i) at good.3)

    pub fit_write : (m : ℕ) → Fit (fetched (write_fetches k) m (after_write g k v))
    unfolding after_write write_refusals
    fit_write m =
        keeps.fit_fetched (after_write g k v)
        (pick_of Fit (eqb k 0) (λ i. keeps.fit_mask g f v (not-false _ (rw i at good.0)))
        (λ n0. pick_of Fit (eqb k 1) (λ i. fit_commanded g f (command_of v) (small v) (rw i at idle.0) (rw i at (none PAGE)))
        (λ n1. pick_of Fit (eqb k 2) (λ i. keeps.fit_mode g f v (not-false _ (rw i at good.2)))
        (λ n2. pick_of Fit (eqb k 3) (λ i. keeps.fit_pointer g f (g.mode % 4) v (low2 LOW2 refl refl refl refl (g.mode % 4) (omega arith)))
        (λ n3. pick_of Fit (eqb k 4) (λ i. fit_stepped)
        (λ n4. pick_of Fit (eqb k 6) (λ i. fit_configured v (rw i at idle.1))
        (λ n6. pick_of Fit (eqb k 7) (λ i. at_seven (eqb-true _ _ i)) (λ n7. f)))))))) _

pub fit_reset : fit hardware_reset ≡ true
unfolding hardware_reset
fit_reset =
    let x = fits_none Transmit false 0 0x91 refl in
    let y = fits_none Receive false 0 0x91 refl in
    rules_fit hardware_reset (search (x, y))
