-- Pairs of hex digits, pair by pair.
-- Assumes nothing.
use mathlib.Core.Path.{◌≡◌, refl, sym, ap, ◌∙◌}
use mathlib.Core.Bool.{Bool, false, ◌&&◌}
use mathlib.Core.List.{List, [], ◌∷◌, ◌++◌, append_assoc, append-nil}
use Prim.Native.Nat.{ℕ, suc, ◌+◌, ◌*◌, ◌/◌, ◌%◌, ◌≤◌, ◌<◌}
use native.Mathlib.Numerals.{add-one}
use native.Mathlib.Omega.{arith}
use lib.ListN.{length, get_or, take, drop, set, length-drop}
use lib.Seq.{drop-cons, take_all, take-suc-set}
use Rattle.std.specs.Prelude.{is_some}
use Rattle.std.specs.List.{list_all}
use Rattle.std.proofs.Math.Bool.{and-false}
use Rattle.words.specs.Hex.{nibble, pair, hex_fits, unhex}

-- the pair at i
two : (s : List ℕ) (i : ℕ) → i + 1 < length s → drop i s ≡ get_or s i 0 ∷ get_or s (i + 1) 0 ∷ drop (i + 2) s
two s i h =
    let a : i < length s = omega arith in
    let b : suc i < length s = omega arith in
    let e : suc (suc i) ≡ i + 2 = omega arith in
    let f : suc i ≡ i + 1 = omega arith in
    drop-cons s i 0 a ∙ ap (λ (l : List ℕ). get_or s i 0 ∷ l) (drop-cons s (suc i) 0 b ∙ rw (e, f) refl)

-- an odd number of bytes; an even number, which are pairs of digits if each is a digit
pub fits_odd : (s : List ℕ) → (length s % 2 ≡ 0 → ⊥) → hex_fits s ≡ false
unfolding hex_fits
fits_odd [] n = absurd (n refl)
fits_odd (h ∷ []) n = refl
fits_odd (h ∷ l ∷ s) n =
    let f : hex_fits s ≡ false = fits_odd s (λ e. n (omega (arith, e))) in
    rw (f, and-false, and-false)

pub fits_even : (s : List ℕ) → length s % 2 ≡ 0 → hex_fits s ≡ list_all (λ b. is_some (nibble b)) s
unfolding hex_fits
fits_even [] e = refl
fits_even (h ∷ []) e = absurd (omega (arith, e))
fits_even (h ∷ l ∷ s) e =
    let f : length s % 2 ≡ 0 = omega (arith, e) in
    ap (λ (b : Bool). is_some (nibble h) && (is_some (nibble l) && b)) (fits_even s f)

module _ (s : List ℕ) (i : ℕ) (h : i + 1 < length s) where
  unhex_at : unhex (drop i s) ≡ pair (get_or s i 0) (get_or s (i + 1) 0) ∷ unhex (drop (i + 2) s)
  unfolding unhex
  unhex_at = rw (two s i h)

unhex_none : (s : List ℕ) → length s ≤ 1 → unhex s ≡ []
unfolding unhex
unhex_none [] h = refl
unhex_none (x ∷ []) h = refl
unhex_none (x ∷ y ∷ s) h = absurd (omega arith)

-- k bytes of `out` are stored, and those that the pairs from there on spell make up the rest
module _ (s out : List ℕ) (k : ℕ) where
  pub spelt_more : (v : ℕ) → v ≡ pair (get_or s (2 * k) 0) (get_or s (2 * k + 1) 0) → k < length out → 2 * k + 1 < length s
      → take (k + 1) (set out k v) ++ unhex (drop (2 * (k + 1)) s) ≡ take k out ++ unhex (drop (2 * k) s)
  spelt_more v e l g =
      let two-k : 2 * (k + 1) ≡ 2 * k + 2 = omega arith in
      rw (two-k, add-one, take-suc-set out k v l)
      (append_assoc (take k out) (v ∷ []) (unhex (drop (2 * k + 2) s))
      ∙ ap (λ (t : List ℕ). take k out ++ t) (rw e (sym (unhex_at s (2 * k) g))))

  pub spelt_all : length out ≤ k → length s ≤ 2 * k + 1 → take k out ++ unhex (drop (2 * k) s) ≡ out
  spelt_all l h =
      let g : length (drop (2 * k) s) ≤ 1 = rw length-drop (omega arith) in
      rw (take_all k out l, unhex_none (drop (2 * k) s) g) (append-nil out)

pub unhex_length : (s : List ℕ) → length (unhex s) ≡ length s / 2
unfolding unhex
unhex_length [] = refl
unhex_length (x ∷ []) = refl
unhex_length (x ∷ y ∷ s) = omega (arith, unhex_length s)
