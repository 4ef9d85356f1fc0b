-- The numbers of rows renamed, one to one: those below n stay below n, and two that differ still differ.
-- Assumes nothing.
use mathlib.Core.Path.{◌≡◌, sym, ◌∙◌, ap}
use mathlib.Core.Bool.{true, false}
use mathlib.Core.Logic.{⊎_elim}
use Prim.Native.Nat.{ℕ, ◌<◌}
use native.Mathlib.Omega.{arith}
use lib.Dec.{eqb, leb, ltb}
use borrow.Author.Tests.{eqb-true, eqb-false, eq-eqb, ne_eqb, ltb-true, ltb-false, lt-ltb, lt-leb}
use Rattle.std.proofs.lemmas.Bool.{cases_Bool}
use Rattle.table.specs.Shuffle.{Shuffle}

module _ {n : ℕ} (q : Shuffle n) where
  -- two rows at one place are one row
  to_one : (i j : ℕ) → q.to i ≡ q.to j → i ≡ j
  to_one i j e = sym (q.undone i) ∙ ap q.from e ∙ q.undone j

  pub to_same : (i j : ℕ) → eqb (q.to i) (q.to j) ≡ eqb i j
  to_same i j =
      ⊎_elim (λ (t : eqb i j ≡ true). eq-eqb _ _ (ap q.to (eqb-true i j t)) ∙ sym t)
      (λ (t : eqb i j ≡ false). ne_eqb _ _ (λ e. eqb-false i j t (to_one i j e)) ∙ sym t) (cases_Bool (eqb i j))

  -- the row that stands at the place j is row k where j is row k's place
  pub to_from : (j k : ℕ) → eqb j (q.to k) ≡ eqb (q.from j) k
  to_from j k = ap (λ (x : ℕ). eqb x (q.to k)) (sym (q.redone j)) ∙ to_same (q.from j) k

  -- ---- below n, and not below n
  pub to_within : (k : ℕ) → k < n → q.to k < n
  to_within k l =
      ⊎_elim (λ (t : ltb (q.to k) n ≡ true). ltb-true _ _ t)
      (λ (t : ltb (q.to k) n ≡ false). let m = ltb-false (q.to k) n t in
      absurd (omega (arith, to_one (q.to k) k (q.past (q.to k) m)))) (cases_Bool (ltb (q.to k) n))

  pub from_within : (j : ℕ) → j < n → q.from j < n
  from_within j l =
      ⊎_elim (λ (t : ltb (q.from j) n ≡ true). ltb-true _ _ t)
      (λ (t : ltb (q.from j) n ≡ false). let m = ltb-false (q.from j) n t in
      absurd (omega (arith, sym (q.redone j) ∙ q.past (q.from j) m))) (cases_Bool (ltb (q.from j) n))

  pub to_below : (k : ℕ) → ltb (q.to k) n ≡ ltb k n
  to_below k =
      ⊎_elim (λ (t : ltb k n ≡ true). lt-ltb _ _ (to_within k (ltb-true k n t)) ∙ sym t)
      (λ (t : ltb k n ≡ false). ap (λ (x : ℕ). ltb x n) (q.past k (ltb-false k n t))) (cases_Bool (ltb k n))

  pub to_least : (k : ℕ) → leb n (q.to k) ≡ leb n k
  to_least k =
      ⊎_elim (λ (t : ltb k n ≡ true). let l = ltb-true k n t in lt-leb _ _ (to_within k l) ∙ sym (lt-leb _ _ l))
      (λ (t : ltb k n ≡ false). ap (leb n) (q.past k (ltb-false k n t))) (cases_Bool (ltb k n))
