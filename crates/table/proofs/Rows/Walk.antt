-- The rows that a walk gives, and a test of each.
-- Assumes nothing.
use mathlib.Core.Path.{◌≡◌, refl, sym, ◌∙◌}
use mathlib.Core.Bool.{Bool, true}
use mathlib.Core.List.{List, [], ◌∷◌}
use mathlib.Core.Logic.{⊎_elim}
use Prim.Native.Nat.{ℕ, zero, suc, ◌+◌, ◌-◌, ◌^◌, ◌≤◌, ◌<◌}
use native.Mathlib.Nat.{eq-or-lt_of_le}
use native.Mathlib.Numerals.{add-one}
use native.Mathlib.Omega.{arith}
use Rattle.std.proofs.lemmas.Iterator.{YieldsList}
use Rattle.std.proofs.lemmas.Iterator.Consumers.{YieldsList-from_shown}
use Rattle.std.specs.List.{list_all}
use Rattle.std.proofs.Common.{Some, None}
use Rattle.std.specs.Borrow.{Bor}
use Rattle.std.proofs.lemmas.Bool.{cases_Bool}
use Rattle.bits.proofs.Words.Bools.{and_left, and_right}
use Rattle.table.specs.Folds.{every}
use Rattle.table.specs.Rows.{row_at}
use Rattle.table.specs.Walk.{Walk, walk, next_row}
use Rattle.table.proofs.Folds.{every_at, every_of, clash}

-- the walk before row k of n
abbrev pub before_row : ℕ × ℕ → List ℕ → ℕ → ℕ → Walk
before_row place net n k = record { place = place; net = net; passed = k; count = n }

-- m rows, from row k on
abbrev pub rows_from : List ℕ → ℕ → ℕ → List (List ℕ)
rows_from net k zero = []
rows_from net k (suc m) = row_at net k ∷ rows_from net (suc k) m

abbrev shown : Walk → List (List ℕ)
shown s = rows_from s.net s.passed (s.count - s.passed)

yields : (s : Walk) → YieldsList next_row (λ r. r.now) s (shown s)
yields =
    YieldsList-from_shown next_row (λ r. r.now) shown
    (λ s t e. let z : s.count - s.passed ≡ 0 = omega (arith, e.0) in rw z)
    (λ s x t e. let z : s.count - s.passed ≡ suc (s.count - (s.passed + 1)) = omega (arith, e.0) in rw (z, e.1, e.2, add-one))

pub walk_yields : (place : ℕ × ℕ) (net : List ℕ) (n : ℕ) → YieldsList next_row (λ r. r.now) (walk place net n) (rows_from net 0 n)
walk_yields place net n = let z : n - 0 ≡ n = omega arith in rw z at (yields (walk place net n))

module _ (net : List ℕ) (f : List ℕ → Bool) where
  all_each : (m k : ℕ) → list_all f (rows_from net k m) ≡ true → (j : ℕ) → k ≤ j → j < k + m → f (row_at net j) ≡ true
  all_each zero k h j a b = absurd (omega (arith, a, b))
  all_each (suc m) k h j a b =
      ⊎_elim (λ e. rw (← e) (and_left (f (row_at net k)) (list_all f (rows_from net (suc k) m)) h))
      (λ l. all_each m (suc k) (and_right (f (row_at net k)) (list_all f (rows_from net (suc k) m)) h) j (omega (arith, l)) (omega (arith, b)))
      (eq-or-lt_of_le a)

  each_all : (m k : ℕ) → ((j : ℕ) → k ≤ j → j < k + m → f (row_at net j) ≡ true) → list_all f (rows_from net k m) ≡ true
  each_all zero k h = refl
  each_all (suc m) k h = rw (h k (omega arith) (omega arith), each_all m (suc k) (λ j a b. h j (omega (arith, a)) (omega (arith, b))))

  -- a test of the rows in turn is the test at each number
  pub all_every : (n : ℕ) → list_all f (rows_from net 0 n) ≡ every (λ k. f (row_at net k)) n
  all_every n =
      ⊎_elim (λ t. t ∙ sym (every_of _ n (λ k l. all_each n 0 t k (omega arith) (omega (arith, l)))))
      (λ u. ⊎_elim (λ t. absurd (clash (each_all n 0 (λ j a b. every_at _ n j t (omega (arith, b)))) u)) (λ v. u ∙ sym v)
      (cases_Bool (every (λ k. f (row_at net k)) n)))
      (cases_Bool (list_all f (rows_from net 0 n)))

-- ---- a loop over the rows: w is the walk before row k of n
pub record Before (net : List ℕ) (n k : ℕ) (w : Walk) : Type 0 where
  pub at : w ≡ before_row w.place net n k
  pub most : k ≤ n

module _ (net : List ℕ) (n k : ℕ) (w : Walk) where
  pub before_first : {place : ℕ × ℕ} → w ≡ walk place net n → k ≡ 0 → Before net n k w
  before_first p z = record { at = rw (p, z); most = omega (arith, z) }

  module _ (p : Before net n k w) where
    pub before_fits : n < 2 ^ 64 → k + (w.count - w.passed) < 2 ^ 64
    before_fits h = rw p.at (omega (arith, h, p.most))

    module _ (t : Walk) where
      pub before_end : next_row w None t → k ≡ n
      before_end e = rw p.at at (e.0)

      module _ (row : Bor (List ℕ)) (e : next_row w (Some row) t) where
        pub before_less : k < n
        before_less = rw p.at at (e.0)

        pub before_next : (j : ℕ) → j ≡ k + 1 → Before net n j t
        before_next j d = record { at = rw (e.1, p.at, d); most = omega (arith, d, before_less) }

        pub before_is : row.now ≡ row_at net k
        before_is = e.2 ∙ rw p.at

pub ruleset turns = (before_first, before_next, before_is)
