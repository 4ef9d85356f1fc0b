-- Flags of a byte: what is kept, set and cleared by a mask.
-- Assumes nothing.
use mathlib.Core.Path.{◌≡◌, sym, ◌∙◌, ap}
use mathlib.Core.Bool.{Bool, true, false, true≢false}
use Prim.Native.Nat.{ℕ, ◌-◌, ◌<◌}
use native.Mathlib.Omega.{arith}
use borrow.Author.Tests.{eqb-true, eq-eqb, ne_eqb}
use lib.Bits.{bit_and, bit_or, and_zero_r}
use lib.Dec.{eqb}
use Rattle.std.proofs.lemmas.Nat.{and_assoc, and_comm, and_or_apart, and_or_self}
use Rattle.bits.specs.Words.{clear, has, raise, lower, set_to}

-- ---- the flags f of a byte x after other flags m were set or cleared
module _ (f m x : ℕ) where
  -- clearing leaves the flags that it does not name, and no other
  pub lower_to : (k : ℕ) → bit_and (255 - m) f ≡ k → clear f (lower m x) ≡ clear k x
  lower_to k e = ap (λ (y : ℕ). eqb y 0) (and_assoc f x (255 - m) ∙ ap (bit_and x) e)

  pub lower_other : bit_and (255 - m) f ≡ f → clear f (lower m x) ≡ clear f x
  lower_other e = lower_to f e

  pub lower_clears : bit_and (255 - m) f ≡ 0 → clear f (lower m x) ≡ true
  lower_clears e = eq-eqb _ _ (and_assoc f x (255 - m) ∙ ap (bit_and x) e ∙ and_zero_r x)

  pub raise_other : bit_and m f ≡ 0 → clear f (raise m x) ≡ clear f x
  raise_other e = ap (λ (y : ℕ). eqb y 0) (and_or_apart f x m e)

  pub raise_sets : 0 < bit_and m f → clear f (raise m x) ≡ false
  raise_sets h = ne_eqb _ 0 (λ e.
      let y = bit_or x m in
      let z : bit_and m f ≡ 0 =
      ap (λ (a : ℕ). bit_and a f) (sym (and_or_self m x)) ∙ and_assoc f y m ∙ ap (bit_and y) (and_comm m f) ∙ sym (and_assoc m y f) ∙ ap (λ (a : ℕ). bit_and a m) e in
      omega arith)

  -- flags that are set to 1 or to 0 leave the others
  pub set_other : (b : Bool) → bit_and m f ≡ 0 → bit_and (255 - m) f ≡ f → clear f (set_to b m x) ≡ clear f x
  set_other true r l = raise_other r
  set_other false r l = lower_other l

-- a byte with no bit of f has none of those of m, which are among them
pub clear_within : (f m x : ℕ) → bit_and f m ≡ m → clear f x ≡ true → clear m x ≡ true
clear_within f m x e h =
    let z : bit_and x f ≡ 0 = eqb-true _ _ h in
    eq-eqb _ _ (ap (bit_and x) (sym e) ∙ sym (and_assoc m x f) ∙ ap (λ (y : ℕ). bit_and y m) z)

-- a byte with some bit is not 0
pub nonzero : (m x : ℕ) → has m x ≡ true → eqb x 0 ≡ false
nonzero m x h = ne_eqb x 0 (λ e. true≢false (sym h ∙ rw e))
