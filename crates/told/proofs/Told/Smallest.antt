-- "The smallest number wins": of a list of refusals that rises; what is told of a list in two parts; and that 11 is not told.
-- Assumes nothing.
use mathlib.Core.Path.{◌≡◌, refl, sym, ◌∙◌, ap}
use mathlib.Core.Bool.{Bool, true, false, false≢true}
use mathlib.Core.List.{List, [], ◌∷◌, ◌++◌}
use mathlib.Core.Logic.{⊎_elim}
use Prim.Native.Nat.{ℕ, ◌<◌}
use native.Mathlib.Omega.{arith}
use borrow.Author.Tests.{eq-eqb, ne_eqb, eqb-true, eqb-false, ltb-true}
use lib.Dec.{eqb, ltb}
use Rattle.bits.specs.Words.{pick, among}
use Rattle.told.specs.Numbers.{DONE, numbers, Refusal, ◌when◌, refuse, told_after, told, numbers_of, follows, rises_from, rises, refuses, Smallest}
use Rattle.std.proofs.lemmas.Bool.{cases_Bool}
use Rattle.std.proofs.Math.Bool.{and-false}
use Rattle.bits.proofs.Words.Bools.{and_left, and_right}

-- ---- one refusal: it is told, it does not hold, or a number told before it stands
pub refuse_held : (k : ℕ) (t : Bool) → t ≡ true → refuse DONE k t ≡ k
unfolding refuse
refuse_held k t e = rw e

pub refuse_passed : (n k : ℕ) (t : Bool) → t ≡ false → refuse n k t ≡ n
unfolding refuse
refuse_passed n k t e = rw (e, and-false (eqb n DONE))

pub refuse_stays : (n k : ℕ) (t : Bool) → (n ≡ DONE → ⊥) → refuse n k t ≡ n
unfolding refuse
refuse_stays n k t h = rw (ne_eqb n DONE h)

stays : (l : List Refusal) (n : ℕ) → (n ≡ DONE → ⊥) → told_after n l ≡ n
stays [] n h = refl
stays (k when t ∷ l) n h = ap (λ (m : ℕ). told_after m l) (refuse_stays n k t h) ∙ stays l n h

-- ---- a list in two parts: the second is asked where the first tells DONE
pub told_append : (a b : List Refusal) (n : ℕ) → told_after n (a ++ b) ≡ told_after (told_after n a) b
told_append [] b n = refl
told_append (k when t ∷ a) b n = told_append a b (refuse n k t)

module _ (a b : List Refusal) where
  pub told_first : (told a ≡ DONE → ⊥) → told (a ++ b) ≡ told a
  told_first h = told_append a b DONE ∙ stays b (told a) h

  pub told_second : told a ≡ DONE → told (a ++ b) ≡ told b
  told_second z = told_append a b DONE ∙ ap (λ (n : ℕ). told_after n b) z

  pub told_both : told (a ++ b) ≡ DONE → (told a ≡ DONE) × (told b ≡ DONE)
  told_both e =
      ⊎_elim (λ t. let z = eqb-true (told a) DONE t in (z, sym (told_second z) ∙ e))
      (λ t. let n = eqb-false (told a) DONE t in absurd (n (sym (told_first n) ∙ e)))
      (cases_Bool (eqb (told a) DONE))

-- ---- numbers that rise: the first, and the rest
module _ (n k : ℕ) (l : List ℕ) (r : rises_from n (k ∷ l) ≡ true) where
  first : follows n k ≡ true
  first = and_left (follows n k) (rises_from k l) r

  higher : n < k
  higher = ltb-true n k (and_left (ltb n k) (among numbers k) first)

  known : among numbers k ≡ true
  known = and_right (ltb n k) (among numbers k) first

  rest : rises_from k l ≡ true
  rest = and_right (follows n k) (rises_from k l) r

-- the last of them, n where there is none
abbrev pub last_from : ℕ → List ℕ → ℕ
last_from n [] = n
last_from n (k ∷ l) = last_from k l

pub rises_append : (a b : List Refusal) (n : ℕ) → rises_from n (numbers_of a) ≡ true → rises_from (last_from n (numbers_of a)) (numbers_of b) ≡ true
    → rises_from n (numbers_of (a ++ b)) ≡ true
rises_append [] b n p q = q
rises_append (k when t ∷ a) b n p q = rw (first n k (numbers_of a) p) (rises_append a b k (rest n k (numbers_of a) p) q)

above : (l : List Refusal) (n m : ℕ) → rises_from n (numbers_of l) ≡ true → refuses l m ≡ true → n < m
above [] n m r h = absurd (false≢true h)
above (k when t ∷ l) n m r h =
    let p = higher n k (numbers_of l) r in
    ⊎_elim (λ (e : eqb m k ≡ true). rw (eqb-true m k e) p)
    (λ (e : eqb m k ≡ false). omega (arith, above l k m (rest n k (numbers_of l) r) (rw e at h))) (cases_Bool (eqb m k))

later : (b c : Bool) → pick b false c ≡ true → c ≡ true
later true c h = absurd (false≢true h)
later false c h = h

smallest_from : (l : List Refusal) (n : ℕ) → rises_from n (numbers_of l) ≡ true → Smallest l (told l)
unfolding refuse
smallest_from [] n r = record { given = λ h. absurd (h refl); one = λ h. absurd (h refl); least = λ m h. absurd (false≢true h) }
smallest_from (k when true ∷ l) n r =
    let p = higher n k (numbers_of l) r in
    let q : k ≡ DONE → ⊥ = λ e. omega arith in
    rw (stays l k q)
    (record {
      given = λ _. known n k (numbers_of l) r;
      one = λ _. rw (eq-eqb k k refl);
      least = λ m h. (
        q,
        ⊎_elim (λ (e : eqb m k ≡ true). omega (arith, eqb-true m k e))
            (λ (e : eqb m k ≡ false). omega (arith, above l k m (rest n k (numbers_of l) r) (rw e at h))) (cases_Bool (eqb m k)),
      );
    })
smallest_from (k when false ∷ l) n r =
    let q = rest n k (numbers_of l) r in
    let s = smallest_from l k q in record {
      given = s.given;
      one = λ h. rw (ne_eqb (told l) k (λ e. omega (arith, above l k (told l) q (s.one h)))) (s.one h);
      least = λ m h. s.least m (later (eqb m k) (refuses l m) h);
    }

pub smallest : (l : List Refusal) → rises (numbers_of l) ≡ true → Smallest l (told l)
smallest l r = smallest_from l DONE r

-- a refusal that holds has a number of the list
pub refuses_among : (l : List Refusal) (n : ℕ) → refuses l n ≡ true → among (numbers_of l) n ≡ true
refuses_among [] n h = h
refuses_among (k when t ∷ l) n h =
    ⊎_elim (λ (e : eqb n k ≡ true). rw e) (λ (e : eqb n k ≡ false). rw e (refuses_among l n (rw e at h))) (cases_Bool (eqb n k))

-- where DONE is told no refusal holds
pub none_refuses : (l : List Refusal) → rises (numbers_of l) ≡ true → told l ≡ DONE → (n : ℕ) → refuses l n ≡ false
none_refuses l r z n = ⊎_elim (λ t. absurd (((smallest l r).least n t).0 z)) (λ t. t) (cases_Bool (refuses l n))

-- ---- the numbers themselves: they rise, so that none is given twice, and 11 is not given again
pub numbers_rise : rises numbers ≡ true
numbers_rise = refl

not_again : among numbers 11 ≡ false
not_again = refl

pub never_11 : (l : List Refusal) (n : ℕ) → Smallest l n → n ≡ 11 → ⊥
never_11 l n s e = false≢true (sym not_again ∙ ap (among numbers) (sym e) ∙ s.given (λ z. omega (arith, e, z)))
