-- Decimal digits, one by one.
-- Assumes nothing.
use mathlib.Core.Path.{◌≡◌, ap, ◌∙◌}
use mathlib.Core.Bool.{Bool, true, false, not, ◌&&◌}
use mathlib.Core.List.{List, [], ◌∷◌}
use Prim.Native.Nat.{ℕ, ◌+◌, ◌*◌, ◌-◌, ◌≤◌, ◌<◌}
use native.Mathlib.Numerals.{add-one}
use native.Mathlib.Omega.{arith}
use lib.Dec.{eqb}
use lib.ListN.{length, get_or, drop, drop_of_length-le}
use lib.Seq.{drop-cons}
use Rattle.std.specs.Prelude.{Some, None}
use borrow.Author.Tests.{eq-eqb, ne_eqb, le-leb, lt-leb}
use Rattle.words.specs.Numbers.{digit, digits, value_after, MOST, is_number, number_of}
use Rattle.std.proofs.Math.Bool.{and-false}

pub digits_end : (s : List ℕ) (i : ℕ) → length s ≤ i → digits (drop i s) ≡ true
unfolding digits
digits_end s i h = rw (drop_of_length-le s h)

pub value_end : (s : List ℕ) (i v : ℕ) → length s ≤ i → value_after v (drop i s) ≡ v
unfolding value_after
value_end s i v h = rw (drop_of_length-le s h)

module _ (s : List ℕ) (i : ℕ) (h : i < length s) where
  digits_at : digits (drop i s) ≡ (digit (get_or s i 0) && digits (drop (i + 1) s))
  unfolding digits
  digits_at = rw (drop-cons s i 0 h, add-one)

  pub digits_not : digit (get_or s i 0) ≡ false → digits (drop i s) ≡ false
  digits_not t = digits_at ∙ ap (λ (b : Bool). b && digits (drop (i + 1) s)) t

  pub digits_more : digit (get_or s i 0) ≡ true → digits (drop i s) ≡ digits (drop (i + 1) s)
  digits_more t = digits_at ∙ ap (λ (b : Bool). b && digits (drop (i + 1) s)) t

  pub value_more : (v : ℕ) → value_after v (drop i s) ≡ value_after (10 * v + (get_or s i 0 - 48)) (drop (i + 1) s)
  unfolding value_after
  value_more v = rw (drop-cons s i 0 h, add-one)

-- more digits make no smaller value
value_least : (s : List ℕ) (v : ℕ) → v ≤ value_after v s
unfolding value_after
value_least [] v = omega arith
value_least (b ∷ s) v = omega (arith, value_least s (10 * v + (b - 48)))

-- ---- the answer
module _ (s : List ℕ) where
  pub none_empty : length s ≡ 0 → None ≡ number_of s
  unfolding number_of is_number
  none_empty e = rw (eq-eqb _ _ e)

  pub none_digits : digits s ≡ false → None ≡ number_of s
  unfolding number_of is_number
  none_digits t = rw (t, and-false (not (eqb (length s) 0)))

  none_large : MOST < value_after 0 s → None ≡ number_of s
  unfolding number_of is_number
  none_large h = rw (lt-leb _ _ h, and-false (not (eqb (length s) 0) && digits s))

  pub none_over : (i v : ℕ) → i < length s → value_after 0 s ≡ value_after v (drop i s) → MOST < 10 * v + (get_or s i 0 - 48)
      → None ≡ number_of s
  none_over i v h e g =
      none_large (omega (arith, e, value_more s i h v, value_least (drop (i + 1) s) (10 * v + (get_or s i 0 - 48))))

  pub some_number : (v : ℕ) → (length s ≡ 0 → ⊥) → digits s ≡ true → value_after 0 s ≡ v → v ≤ MOST → Some v ≡ number_of s
  unfolding number_of is_number
  some_number v n t e h = rw (ne_eqb _ _ n, t, e, le-leb _ _ h)
