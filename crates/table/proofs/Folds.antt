-- What the tests and searches over the numbers below a bound say.
-- Assumes nothing.
use mathlib.Core.Path.{◌≡◌, refl, sym}
use mathlib.Core.Bool.{Bool, true, false, ◌||◌}
use mathlib.Core.Logic.{⊎_elim}
use Prim.Native.Nat.{ℕ, zero, suc, ◌+◌, ◌≤◌, ◌<◌}
use native.Mathlib.Nat.{not-suc-le-zero, le_of_suc-le-suc, eq-or-lt_of_le}
use native.Mathlib.Numerals.{add-one}
use native.Mathlib.Omega.{arith}
use borrow.Author.Tests.{ltb-true, ltb-false, lt-ltb, le-ltb}
use Rattle.std.proofs.Common.{Some, None}
use Rattle.std.specs.Option.{is_some}
use lib.Dec.{ltb}
use Rattle.std.proofs.lemmas.Bool.{cases_Bool}
use Rattle.std.proofs.Math.Bool.{or-true}
use Rattle.bits.proofs.Words.Bools.{and_left, and_right, or_left, or_right, pick_of}
use Rattle.table.specs.Folds.{every, some, seek, below}

pub clash : {b : Bool} → b ≡ true → b ≡ false → ⊥
clash p q = let z : ◌≡◌ {A = ℕ} 0 1 = cc in omega arith

-- ---- every
module _ (f : ℕ → Bool) where
  every_none : every f 0 ≡ true
  unfolding every
  every_none = refl

  every_more : (k : ℕ) → every f k ≡ true → f k ≡ true → every f (k + 1) ≡ true
  unfolding every
  every_more k p q = rw (add-one, p, q)

  pub every_at : (n k : ℕ) → every f n ≡ true → k < n → f k ≡ true
  unfolding every
  every_at zero k t h = absurd (not-suc-le-zero h)
  every_at (suc n) k t h =
      ⊎_elim (λ e. rw e (and_right (every f n) (f n) t)) (λ l. every_at n k (and_left (every f n) (f n) t) l)
      (eq-or-lt_of_le (le_of_suc-le-suc h))

  pub every_of : (n : ℕ) → ((k : ℕ) → k < n → f k ≡ true) → every f n ≡ true
  unfolding every
  every_of zero e = refl
  every_of (suc n) e = rw (every_of n (λ k l. e k (omega arith)), e n (omega arith))

  every_broken : (k n : ℕ) → k < n → f k ≡ false → every f n ≡ false
  every_broken k n h q = ⊎_elim (λ t. absurd (clash (every_at n k t h) q)) (λ t. t) (cases_Bool (every f n))

-- a loop that tests f at each number below n, and stops where it fails: what holds at its head, where it stops, and at its end
pub record Passed (f : ℕ → Bool) (n k : ℕ) : Type 0 where
  pub below : k ≤ n
  pub good : every f k ≡ true

module _ (f : ℕ → Bool) (n : ℕ) where
  pub passed_none : Passed f n 0
  passed_none = record { below = omega arith; good = every_none f }

  module _ (k : ℕ) (l : k < n) where
    pub passed_fails : f k ≡ false → false ≡ every f n
    passed_fails q = sym (every_broken f k n l q)

    pub passed_more : Passed f n k → f k ≡ true → Passed f n (k + 1)
    passed_more p q = record { below = omega arith; good = every_more f k p.good q }

-- ---- some
module _ (f : ℕ → Bool) where
  pub some_none : some f 0 ≡ false
  unfolding some
  some_none = refl

  pub some_more : (k : ℕ) → some f (k + 1) ≡ (some f k || f k)
  unfolding some
  some_more k = rw add-one

  pub some_at : (n k : ℕ) → f k ≡ true → k < n → some f n ≡ true
  unfolding some
  some_at zero k t h = absurd (not-suc-le-zero h)
  some_at (suc n) k t h =
      ⊎_elim (λ e. rw (← e, t) (or-true (some f k))) (λ l. rw (some_at n k t l)) (eq-or-lt_of_le (le_of_suc-le-suc h))

  -- where none is found, the test fails at each number, and back
  pub some_fails : (n k : ℕ) → some f n ≡ false → k < n → f k ≡ false
  unfolding some
  some_fails zero k t h = absurd (not-suc-le-zero h)
  some_fails (suc n) k t h =
      ⊎_elim (λ e. rw e (or_right (some f n) (f n) t)) (λ l. some_fails n k (or_left (some f n) (f n) t) l)
      (eq-or-lt_of_le (le_of_suc-le-suc h))

  pub some_not : (n : ℕ) → ((k : ℕ) → k < n → f k ≡ false) → some f n ≡ false
  unfolding some
  some_not zero e = refl
  some_not (suc n) e = rw (some_not n (λ k l. e k (omega arith)), e n (omega arith))

-- ---- seek
module _ (f : ℕ → Bool) where
  pub seek_none : seek f 0 ≡ 0
  unfolding seek
  seek_none = refl

  pub seek_at_most : (n : ℕ) → seek f n ≤ n
  unfolding seek
  seek_at_most zero = omega arith
  seek_at_most (suc n) =
      pick_of (λ (x : ℕ). x ≤ suc n) (ltb (seek f n) n) (λ t. omega (arith, seek_at_most n))
      (λ t. pick_of (λ (x : ℕ). x ≤ suc n) (f n) (λ e. omega arith) (λ e. omega arith))

  pub seek_found : (n : ℕ) → seek f n < n → f (seek f n) ≡ true
  unfolding seek
  seek_found zero h = absurd (not-suc-le-zero h)
  seek_found (suc n) h =
      pick_of (λ (x : ℕ). x < suc n → f x ≡ true) (ltb (seek f n) n) (λ t l. seek_found n (ltb-true _ _ t))
      (λ t. pick_of (λ (x : ℕ). x < suc n → f x ≡ true) (f n) (λ e l. e) (λ e l. absurd (omega arith))) h

  pub seek_least : (n j : ℕ) → j < seek f n → f j ≡ false
  unfolding seek
  seek_least zero j h = absurd (not-suc-le-zero h)
  seek_least (suc n) j h =
      pick_of (λ (x : ℕ). j < x → f j ≡ false) (ltb (seek f n) n) (λ t l. seek_least n j l)
      (λ t. let m = ltb-false (seek f n) n t in
      pick_of (λ (x : ℕ). j < x → f j ≡ false) (f n) (λ e l. seek_least n j (omega arith))
      (λ e l. ⊎_elim (λ q. rw q e) (λ b. seek_least n j (omega arith)) (eq-or-lt_of_le (le_of_suc-le-suc l)))) h

  -- the least number at which f holds is the one that is found; n where f fails throughout
  pub seek_is : (n k : ℕ) → k < n → f k ≡ true → ((j : ℕ) → j < k → f j ≡ false) → seek f n ≡ k
  seek_is n k l t e =
      ⊎_elim (λ b. absurd (clash (seek_found n (omega (arith, ltb-true (seek f n) k b))) (e (seek f n) (ltb-true (seek f n) k b))))
      (λ b. ⊎_elim (λ a. absurd (clash t (seek_least n k (ltb-true k (seek f n) a))))
      (λ a. omega (arith, ltb-false (seek f n) k b, ltb-false k (seek f n) a)) (cases_Bool (ltb k (seek f n)))) (cases_Bool (ltb (seek f n) k))

  pub seek_not : (n : ℕ) → ((j : ℕ) → j < n → f j ≡ false) → seek f n ≡ n
  unfolding seek
  seek_not zero e = refl
  seek_not (suc n) e = rw (seek_not n (λ j l. e j (omega arith)), le-ltb n n (omega arith), e n (omega arith))

  -- as a loop goes: nothing is found below k
  pub seek_here : (n k : ℕ) → seek f k ≡ k → f k ≡ true → k < n → seek f n ≡ k
  seek_here n k s t l = seek_is n k l t (λ j b. seek_least k j (omega arith))

  pub seek_more : (k : ℕ) → seek f k ≡ k → f k ≡ false → seek f (k + 1) ≡ k + 1
  unfolding seek
  seek_more k s t = rw (add-one, s, le-ltb k k (omega arith), t)

-- a search below n tells whether there is some
module _ (f : ℕ → Bool) (n k : ℕ) (e : k ≡ seek f n) where
  pub some_found : k < n → some f n ≡ true
  some_found l = some_at f n (seek f n) (seek_found f n (omega arith)) (omega arith)

  pub some_missed : n ≤ k → some f n ≡ false
  some_missed l = some_not f n (λ j b. seek_least f n j (omega arith))

-- two tests that agree below n find the same
pub seek_same : (f g : ℕ → Bool) (n : ℕ) → ((j : ℕ) → j < n → f j ≡ g j) → seek f n ≡ seek g n
unfolding seek
seek_same f g zero e = refl
seek_same f g (suc n) e = rw (seek_same f g n (λ j l. e j (omega arith)), e n (omega arith))

pub some_same : (f g : ℕ → Bool) (n : ℕ) → ((j : ℕ) → j < n → f j ≡ g j) → some f n ≡ some g n
unfolding some
some_same f g zero e = refl
some_same f g (suc n) e = rw (some_same f g n (λ j l. e j (omega arith)), e n (omega arith))

-- what a search tells that found k, and one that found nothing
pub below_here : (n k f : ℕ) → k < n → k ≡ f → Some k ≡ below n f
below_here n k f l e = rw (← e, lt-ltb k n l)

pub below_none : (n f : ℕ) → f ≡ n → None ≡ below n f
below_none n f e = rw (e, le-ltb n n (omega arith))

pub below_some : (n f : ℕ) → is_some (below n f) ≡ ltb f n
below_some n f = ⊎_elim (λ t. rw t) (λ t. rw t) (cases_Bool (ltb f n))
