-- The parts of a text, byte by byte.
-- Assumes nothing.
use mathlib.Core.Path.{◌≡◌, refl, sym, ap, ◌∙◌}
use mathlib.Core.Bool.{Bool, true, false, not, ◌&&◌}
use mathlib.Core.List.{List, [], ◌∷◌}
use Prim.Native.Nat.{ℕ, zero, suc, ◌+◌, ◌-◌, ◌≤◌, ◌<◌}
use native.Mathlib.Numerals.{add-one, unary_clauses}
use native.Mathlib.Omega.{arith}
use native.Mathlib.Nat.{not-suc-le-zero}
use lib.Dec.{eqb}
use lib.ListN.{length, get_or, take, drop, length-take, length-drop, drop_of_length-le}
use lib.Seq.{drop-cons, drop-drop}
use borrow.Author.Tests.{eq-eqb, ne_eqb}
use mathlib.Core.Logic.{◌≢◌}
use Rattle.std.specs.List.{AllWithin, HoldsAt}
use Rattle.std.specs.Prelude.{Option}
use Rattle.std.specs.Option.{MatchOption, unwrap_or}
use Rattle.std.proofs.lemmas.Iterator.{index_from_first}
use Rattle.words.specs.Words.{pick, SPACE, up_to, past, part, part_from, spaced}

-- how many bytes stand before the first `stop`: what a search for its place gives
pub first_place : (stop : ℕ) (s : List ℕ) (r : Option ℕ)
    → MatchOption r (AllWithin (λ b. b ≢ stop) s 0 (length s)) (λ i. (i < length s) × HoldsAt (λ b. b ≡ stop) s i × AllWithin (λ b. b ≢ stop) s 0 i)
    → length (up_to stop s) ≡ unwrap_or r (length s)
unfolding up_to
first_place stop =
    index_from_first (λ s. length (up_to stop s)) (λ b. b ≡ stop) (λ b. b ≢ stop) refl (λ b s e. rw (eq-eqb _ _ e)) (λ b s n. rw (ne_eqb _ _ n, add-one))

-- ---- past the end
module _ (s : List ℕ) (i : ℕ) (h : length s ≤ i) where
  pub spaced_end : (gap : Bool) → spaced gap (drop i s) ≡ not gap
  unfolding spaced
  spaced_end gap = rw (drop_of_length-le s h)

-- ---- at a byte
module _ (s : List ℕ) (i : ℕ) (h : i < length s) where
  spaced_at : (gap : Bool) → spaced gap (drop i s) ≡ (not (gap && eqb (get_or s i 0) SPACE) && spaced (eqb (get_or s i 0) SPACE) (drop (i + 1) s))
  unfolding spaced
  spaced_at gap = rw (drop-cons s i 0 h, add-one)

  pub spaced_not : (gap : Bool) → (gap && eqb (get_or s i 0) SPACE) ≡ true → spaced gap (drop i s) ≡ false
  spaced_not gap t = spaced_at gap ∙ ap (λ (b : Bool). not b && spaced (eqb (get_or s i 0) SPACE) (drop (i + 1) s)) t

  pub spaced_more : (gap : Bool) → (gap && eqb (get_or s i 0) SPACE) ≡ false → spaced gap (drop i s) ≡ spaced (eqb (get_or s i 0) SPACE) (drop (i + 1) s)
  spaced_more gap t = spaced_at gap ∙ ap (λ (b : Bool). not b && spaced (eqb (get_or s i 0) SPACE) (drop (i + 1) s)) t

-- ---- part k
module _ (stop : ℕ) where
  module _ (b : ℕ) (s : List ℕ) where
    first_cons : (t : Bool) → up_to stop s ≡ take (length (up_to stop s)) s
        → pick t [] (b ∷ up_to stop s) ≡ take (length (pick t [] (b ∷ up_to stop s))) (b ∷ s)
    first_cons true e = refl
    first_cons false e = ap (λ (l : List ℕ). b ∷ l) e

    past_cons : (t : Bool) → past stop s ≡ drop (suc (length (up_to stop s))) s
        → pick t s (past stop s) ≡ drop (suc (length (pick t [] (b ∷ up_to stop s)))) (b ∷ s)
    past_cons true e = refl
    past_cons false e = e

  first_is : (s : List ℕ) → up_to stop s ≡ take (length (up_to stop s)) s
  unfolding up_to
  first_is [] = refl
  first_is (b ∷ s) = first_cons b s (eqb b stop) (first_is s)

  past_is : (s : List ℕ) → past stop s ≡ drop (suc (length (up_to stop s))) s
  unfolding up_to past
  past_is [] = refl
  past_is (b ∷ s) = past_cons b s (eqb b stop) (past_is s)

  pub part_nil : (k : ℕ) → part stop [] k ≡ []
  unfolding part up_to past
  part_nil zero = refl
  part_nil (suc k) = part_nil k

  part_next : (s : List ℕ) (k : ℕ) → 0 < k → part stop s k ≡ part stop (past stop s) (k - 1)
  unfolding part
  part_next s zero h = absurd (not-suc-le-zero h)
  part_next s (suc k) h = simp unary_clauses refl

  from_next : (s : List ℕ) (k : ℕ) → 0 < k → part_from stop s k ≡ suc (length (up_to stop s)) + part_from stop (past stop s) (k - 1)
  unfolding part_from
  from_next s zero h = absurd (not-suc-le-zero h)
  from_next s (suc k) h = simp unary_clauses refl

  pub from_here : (s : List ℕ) (k : ℕ) → k ≡ 0 → part_from stop s k ≡ 0
  unfolding part_from
  from_here s k z = rw z

  module _ (s : List ℕ) (from end : ℕ) (h : from ≤ length s) (e : end ≡ from + length (up_to stop (drop from s))) where
    pub first_here : take (end - from) (drop from s) ≡ up_to stop (drop from s)
    first_here =
        let d : end - from ≡ length (up_to stop (drop from s)) = omega arith in
        rw d (sym (first_is (drop from s)))

    pub part_here : (k : ℕ) → k ≡ 0 → part stop (drop from s) k ≡ take (end - from) (drop from s)
    unfolding part
    part_here k z = rw z (sym first_here)

    pub past_here : past stop (drop from s) ≡ drop (end + 1) s
    past_here =
        let d : from + suc (length (up_to stop (drop from s))) ≡ end + 1 = omega arith in
        past_is (drop from s) ∙ drop-drop (suc (length (up_to stop (drop from s)))) from s ∙ ap (λ (n : ℕ). drop n s) d

    pub part_past : (k : ℕ) → 0 < k → part stop (drop from s) k ≡ part stop (drop (end + 1) s) (k - 1)
    part_past k p = part_next (drop from s) k p ∙ ap (λ (l : List ℕ). part stop l (k - 1)) past_here

    pub part_missing : (k : ℕ) → 0 < k → end ≡ length s → part stop (drop from s) k ≡ []
    part_missing k p f =
        let l : length s ≤ end + 1 = omega arith in
        part_past k p ∙ rw (drop_of_length-le s l) (part_nil (k - 1))

    pub from_past : (k : ℕ) → 0 < k → from + part_from stop (drop from s) k ≡ end + 1 + part_from stop (drop (end + 1) s) (k - 1)
    from_past k p =
        let f = from_next (drop from s) k p ∙ ap (λ (l : List ℕ). suc (length (up_to stop (drop from s))) + part_from stop l (k - 1)) past_here in
        omega (arith, f)

-- ---- a part is no longer than its text
module _ (stop : ℕ) where
  first_length : (s : List ℕ) → length (up_to stop s) ≤ length s
  first_length s = rw (first_is stop s) (omega (arith, length-take (length (up_to stop s)) s))

  past_length : (s : List ℕ) → length (past stop s) ≤ length s
  past_length s = rw (past_is stop s) (omega (arith, length-drop (suc (length (up_to stop s))) s))

  pub part_length : (s : List ℕ) (k : ℕ) → length (part stop s k) ≤ length s
  unfolding part
  part_length s zero = first_length s
  part_length s (suc k) = omega (arith, part_length (past stop s) k, past_length s)
