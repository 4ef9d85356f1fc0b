-- What is told of an order: as the code goes through its records, and what it says of the record that is named.
-- Assumes nothing.
use mathlib.Core.Path.{◌≡◌, sym, ◌∙◌, ap}
use mathlib.Core.Bool.{true, false, not}
use mathlib.Core.List.{List}
use mathlib.Core.Logic.{⊎_elim}
use Prim.Native.Nat.{ℕ, ◌+◌, ◌≤◌, ◌<◌}
use native.Mathlib.Omega.{arith}
use lib.Dec.{eqb, ltb}
use borrow.Author.Tests.{ne_eqb, eq-eqb, eqb-true, eqb-false, ltb-true, ltb-false, lt-ltb, le-ltb, not-true, not-false}
use Rattle.std.proofs.Common.{Some, None, Result, Ok, Err}
use Rattle.std.specs.Result.{IsErrAnd}
use Rattle.told.specs.declared.refusals.Refusal as kinds
use Rattle.told.specs.Refusals.{number_of}
use Rattle.told.specs.Numbers.{DONE, LENGTH, refuse}
use Rattle.told.proofs.Told.Smallest.{refuse_held, refuse_passed}
use Rattle.std.proofs.lemmas.Bool.{cases_Bool}
use Rattle.bits.proofs.Words.Bools.{pick_of}
use Rattle.table.specs.Folds.{seek}
use Rattle.table.proofs.Folds.{seek_more}
use Rattle.orders.specs.declared.bad.Bad.{Bad}
use Rattle.orders.specs.Check.{Checked}
use Rattle.orders.specs.Form.{records, length_fits}
use Rattle.orders.specs.Check.{record_number, refused, first_bad, verdict, tells, checked}
use Rattle.orders.proofs.Checks.Found.{first_here, first_none, first_refused, first_below}

-- ---- what `?` hands on: a refusal that names no record, and one that may
pub verdict_none : (r : Result Unit Bad) (e : kinds.Refusal) → IsErrAnd r (λ b. (b.refusal ≡ e) × (b.«record» ≡ None)) → verdict r ≡ tells (number_of e) 0
verdict_none (Ok u) e h = absurd h
verdict_none (Err b) e h = rw (h.0, h.1)

pub verdict_some : (r : Result Unit Bad) (b : Bad) (n k : ℕ) → IsErrAnd r (λ y. y ≡ b) → n ≡ number_of b.refusal → b.«record» ≡ Some k → verdict r ≡ tells n k
verdict_some (Ok u) b n k h p q = absurd h
verdict_some (Err y) b n k h p q = rw (h, q, p)

module _ (order : List ℕ) where
  -- ---- as the code goes: the search finds none of the first k records
  pub tells_length : (n : ℕ) → (n ≡ DONE → ⊥) → n ≡ refuse DONE LENGTH (not (length_fits order)) → tells n 0 ≡ checked order
  unfolding checked
  tells_length n u h =
      ⊎_elim (λ t. absurd (u (h ∙ refuse_passed DONE LENGTH (not (length_fits order)) (ap not t))))
      (λ f. ap (λ (m : ℕ). tells m 0) (h ∙ refuse_held LENGTH (not (length_fits order)) (ap not f)) ∙ rw f) (cases_Bool (length_fits order))

  pub sized : DONE ≡ refuse DONE LENGTH (not (length_fits order)) → length_fits order ≡ true
  sized h = ⊎_elim (λ t. t) (λ f. absurd (omega (arith, h ∙ refuse_held LENGTH (not (length_fits order)) (ap not f)))) (cases_Bool (length_fits order))

  module _ (l : length_fits order ≡ true) (k : ℕ) (s : seek (refused order) k ≡ k) where
    pub tells_bad : k < records order → (m : ℕ) → m ≡ record_number order k → (m ≡ DONE → ⊥) → tells m (k + 1) ≡ checked order
    unfolding checked
    tells_bad b m p u = rw (l, first_here order k s b (ap not (ne_eqb _ _ (λ z. u (p ∙ z)))), lt-ltb k (records order) b, p)

    pub tells_good : k ≡ records order → tells DONE 0 ≡ checked order
    unfolding checked
    tells_good c = rw (l, first_none order (rw c at s), le-ltb (records order) (records order) (omega arith))

  pub goes_on : (k : ℕ) → seek (refused order) k ≡ k → (m : ℕ) → m ≡ record_number order k → m ≡ DONE → seek (refused order) (k + 1) ≡ k + 1
  goes_on k s m p z = seek_more (refused order) k s (ap not (eq-eqb _ _ (sym p ∙ z)))

  -- ---- none of the first n records is refused
  abbrev pub Good : ℕ → Type 0
  Good n = (j : ℕ) → j < n → record_number order j ≡ DONE

  good_below : (n : ℕ) → n ≤ first_bad order → Good n
  good_below n h j b = eqb-true _ _ (not-false (eqb (record_number order j) DONE) (first_below order j (omega arith)))

  -- ---- what is told is one of three: LENGTH; the refusal of a record, none before it being refused; DONE, where none is
  pub record First (k : ℕ) : Type 0 where
    pub sized : length_fits order ≡ true
    pub there : k < records order
    pub before : Good k
    pub fault : record_number order k ≡ DONE → ⊥

  module _ (P : Checked → Type 0) (short : length_fits order ≡ false → P (tells LENGTH 0)) (bad : (k : ℕ) → First k → P (tells (record_number order k) (k + 1)))
      (good : length_fits order ≡ true → Good (records order) → P (tells DONE 0)) where
    pub checked_of : P (checked order)
    unfolding checked
    checked_of =
        let k = first_bad order in
        pick_of P (not (length_fits order)) (λ t. short (not-true _ t))
        (λ t. pick_of P (ltb k (records order))
        (λ b. let l = ltb-true k (records order) b in
        bad k (record {
          sized = not-false (length_fits order) t;
          there = l;
          before = good_below k (omega arith);
          fault = eqb-false _ _ (not-true (eqb (record_number order k) DONE) (first_refused order l));
        }))
        (λ b. good (not-false (length_fits order) t) (good_below (records order) (ltb-false k (records order) b))))
