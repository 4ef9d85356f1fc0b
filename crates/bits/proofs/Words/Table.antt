-- The table of a function below a bound: a fact about every byte is shown by computing it at all 256.
-- Assumes nothing.
use mathlib.Core.Path.{◌≡◌, sym, ◌∙◌, ap}
use mathlib.Core.Bool.{true, false}
use mathlib.Core.List.{List, [], ◌∷◌}
use Prim.Native.Nat.{ℕ, zero, suc, ◌+◌, ◌-◌, ◌<◌}
use native.Mathlib.Nat.{zero-add, not-suc-le-zero}
use native.Mathlib.Omega.{arith}
use lib.Bits.{bit_and}
use lib.ListN.{get_or}
use Rattle.bits.specs.Flags.{only}

module _ {A : Type 0} (d : A) where
  abbrev pub tab : (ℕ → A) → ℕ → ℕ → List A
  tab f i zero = []
  tab f i (suc n) = f i ∷ tab f (suc i) n

  from : (f : ℕ → A) (i n k : ℕ) → k < n → get_or (tab f i n) k d ≡ f (i + k)
  from f i zero k h = absurd (not-suc-le-zero h)
  from f i (suc n) zero h = ap f (omega arith)
  from f i (suc n) (suc k) h = from f (suc i) n k (omega arith) ∙ ap f (omega arith)

  pub entry : (f : ℕ → A) (n k : ℕ) → k < n → get_or (tab f 0 n) k d ≡ f k
  entry f n k h = from f 0 n k h ∙ ap f (zero-add k)

  -- two functions that have one table agree below its length
  pub by_table : (f g : ℕ → A) (n : ℕ) → tab f 0 n ≡ tab g 0 n → (k : ℕ) → k < n → f k ≡ g k
  by_table f g n e k h = sym (entry f n k h) ∙ ap (λ (l : List A). get_or l k d) e ∙ entry g n k h

-- the bits 1-0 alone are within any byte that has them
pub low2 : (f : ℕ) → bit_and 0 (255 - f) ≡ 0 → bit_and 1 (255 - f) ≡ 0 → bit_and 2 (255 - f) ≡ 0 → bit_and 3 (255 - f) ≡ 0 → (p : ℕ) → p < 4 → only f p ≡ true
low2 f a b c d p h = by_table false (only f) (λ p. true) 4 (rw (a, b, c, d)) p h
