-- Registers that fit stay so when a NAK is counted, of a transmit that waits, and when the NAKs are dropped.
-- Assumes nothing.
use mathlib.Core.Path.{◌≡◌, refl, ◌∙◌}
use mathlib.Core.Bool.{Bool, true, false, ◌||◌}
use mathlib.Core.Logic.{⊎_elim}
use Prim.Native.Nat.{ℕ, ◌+◌, ◌-◌, ◌≤◌}
use native.Mathlib.Omega.{arith}
use borrow.Author.Tests.{eqb-false, ne_eqb, ltb-true, le-leb}
use lib.Dec.{eqb, leb, ltb, lit<}
use Rattle.registers.specs.declared.regs.Regs.{Regs}
use Rattle.bits.specs.Words.{pick, clear, has, raise_if}
use Rattle.bits.specs.Flags.{TA, EXCNAK, only, diagnostic_bits}
use Rattle.registers.specs.Naks.{nak_limit, naks, up_to_limit, next_naks, nak_counted, naks_dropped}
use Rattle.std.proofs.lemmas.Bool.{cases_Bool}
use Rattle.std.proofs.Math.Bool.{or-true}
use Rattle.bits.proofs.Words.Bools.{pick_of}
use Rattle.bits.proofs.Words.Masks.{lower_other, lower_clears, raise_other, raise_sets}
use Rattle.registers.proofs.Values.Fits.{Fit}

-- the count stays at the limit
pub up_most : (n : ℕ) → up_to_limit n ≤ nak_limit
up_most n = pick_of (λ (x : ℕ). x ≤ nak_limit) (ltb n nak_limit) (λ l. let h = ltb-true n nak_limit l in omega arith) (λ _. omega arith)

pub counted_naks : (g : Regs) → naks (nak_counted g) ≡ next_naks g
counted_naks g = omega arith

module _ (g : Regs) (f : Fit g) where
  abbrev shown : ℕ
  shown = raise_if (eqb (next_naks g) nak_limit) EXCNAK g.diagnostic

  shown_named : only diagnostic_bits shown ≡ true
  shown_named =
      pick_of (λ (d : ℕ). only diagnostic_bits d ≡ true) (eqb (next_naks g) nak_limit)
      (λ _. raise_other (255 - diagnostic_bits) EXCNAK g.diagnostic refl ∙ f.diagnostic) (λ _. f.diagnostic)

  -- where one more is not the limit, they were not
  few : eqb (next_naks g) nak_limit ≡ false → eqb (naks g) nak_limit ≡ false
  few n = ne_eqb (naks g) nak_limit (λ e. eqb-false (next_naks g) nak_limit n (rw e))

  shown_excess : pick (eqb (next_naks g) nak_limit) (has EXCNAK shown) (clear EXCNAK shown) ≡ true
  shown_excess =
      ⊎_elim (λ (t : eqb (next_naks g) nak_limit ≡ true). rw (t, raise_sets EXCNAK EXCNAK g.diagnostic (lit< tt)))
      (λ (n : eqb (next_naks g) nak_limit ≡ false). rw n (rw (few n) at f.excess)) (cases_Bool (eqb (next_naks g) nak_limit))

  pub fit_counted : clear TA g.status ≡ true → Fit (nak_counted g)
  fit_counted t =
      let n = counted_naks g in
      let m : leb (naks (nak_counted g)) nak_limit ≡ true = rw n (le-leb _ _ (up_most (naks g + 1))) in
      let c : (eqb (naks (nak_counted g)) 0 || clear TA g.status) ≡ true = rw t (or-true (eqb (naks (nak_counted g)) 0)) in
      let x : pick (eqb (naks (nak_counted g)) nak_limit) (has EXCNAK shown) (clear EXCNAK shown) ≡ true = rw n shown_excess in
      let d = shown_named in
      search (f, d, m, c, x)

  pub fit_dropped : (b : Bool) → Fit (naks_dropped b g)
  fit_dropped true =
      let d = lower_other (255 - diagnostic_bits) EXCNAK g.diagnostic refl ∙ f.diagnostic in
      let x = lower_clears EXCNAK EXCNAK g.diagnostic refl in
      search (f, d, x)
  fit_dropped false = search f
