-- What is told of an order is 0 exactly where the order fits, what an order that fits is like, part by part, and what one is like that does not.
-- Assumes nothing.
use mathlib.Core.Path.{◌≡◌, refl, sym, ◌∙◌, ap}
use mathlib.Core.Bool.{Bool, true, false, not, ◌&&◌}
use mathlib.Core.List.{List, [], ◌∷◌}
use mathlib.Core.Logic.{⊎_elim}
use Prim.Native.Nat.{ℕ, ◌+◌, ◌%◌, ◌≤◌, ◌<◌}
use native.Mathlib.Omega.{arith}
use lib.Dec.{eqb, leb, ltb, lit<}
use lib.ListN.{length}
use borrow.Author.Tests.{eq-eqb, ne_eqb, ltb-true, ltb-false, leb-true, not-true, not-false}
use Rattle.std.proofs.lemmas.Bool.{cases_Bool}
use Rattle.std.proofs.Math.Bool.{or-true}
use Rattle.bits.proofs.Words.Bools.{and_left, and_right, holds}
use Rattle.told.specs.Numbers.{DONE, LENGTH, MARK, ORDER_ID, FLAGS, NAME, TWICE, Smallest}
use Rattle.told.proofs.Told.Smallest.{refuse_passed, smallest, none_refuses, refuses_among}
use Rattle.bits.specs.Words.{among}
use Rattle.table.specs.Folds.{every}
use Rattle.table.specs.Network.{row_limit}
use Rattle.table.proofs.Folds.{clash, every_at, every_of, some_fails, seek_not}
use Rattle.orders.specs.Check.{Checked}
use Rattle.orders.specs.Form.{record_bytes, records, record_at, length_fits, marked, id_fits, flags_fit, name_fits, record_fits, id_at, repeats, order_fits}
use Rattle.orders.specs.Check.{record_refusals, record_numbers, record_number, refused, tells, checked}
use Rattle.orders.proofs.Checks.Told.{Good, First, tells_good, checked_of}

-- ---- a record is told DONE exactly where it fits and no record before it has its ID
abbrev tests : List ℕ → List Bool
tests r = marked r ∷ id_fits r ∷ flags_fit r ∷ name_fits r ∷ []

module _ (order : List ℕ) (k : ℕ) where
  abbrev r : List ℕ
  r = record_at order k

  good_told : record_fits r ≡ true → repeats order k ≡ false → record_number order k ≡ DONE
  unfolding record_number record_fits
  good_told t f =
      let at = holds (tests r) t in
      rw (
        refuse_passed DONE MARK (not (marked r)) (ap not (at 0 (lit< tt))),
        refuse_passed DONE ORDER_ID (not (id_fits r)) (ap not (at 1 (lit< tt))),
        refuse_passed DONE FLAGS (not (flags_fit r)) (ap not (at 2 (lit< tt))),
        refuse_passed DONE NAME (not (name_fits r)) (ap not (at 3 (lit< tt))),
        refuse_passed DONE TWICE (repeats order k) f,
      )

  pub told_good : record_number order k ≡ DONE → (record_fits r ≡ true) × (repeats order k ≡ false)
  unfolding record_number record_fits
  told_good z =
      let passed = none_refuses (record_refusals order k) refl z in (
        rw (not-false (marked r) (passed MARK), not-false (id_fits r) (passed ORDER_ID), not-false (flags_fit r) (passed FLAGS), not-false (name_fits r) (passed NAME)),
        passed TWICE,
      )

-- no record before record k has its ID
pub first_with : (order : List ℕ) (k : ℕ) → repeats order k ≡ false → (j : ℕ) → j < k → id_at order j ≡ id_at order k → ⊥
unfolding repeats
first_with order k f j b e = clash (eq-eqb _ _ e) (some_fails (λ j. eqb (id_at order j) (id_at order k)) k j f b)

-- ---- an order is told 0 exactly where it fits
module _ (order : List ℕ) where
  abbrev fit : ℕ → Bool
  fit k = record_fits (record_at order k)

  abbrev first : ℕ → Bool
  first k = not (repeats order k)

  parts : order_fits order ≡ true → (length_fits order ≡ true) × (every fit (records order) ≡ true) × (every first (records order) ≡ true)
  unfolding order_fits
  parts o =
      let a = and_left (length_fits order && every fit (records order)) (every first (records order)) o in
      (and_left (length_fits order) _ a, and_right (length_fits order) _ a, and_right (length_fits order && every fit (records order)) _ o)

  pub fits_told : order_fits order ≡ true → checked order ≡ tells DONE 0
  fits_told o =
      let n = records order in
      let p = parts o in
      let good : Good order n = λ j l. good_told order j (every_at fit n j p.1 l) (not-true _ (every_at first n j p.2 l)) in
      sym (tells_good order p.0 n (seek_not (refused order) n (λ j l. ap not (eq-eqb _ _ (good j l)))) refl)

  pub told_fits : (checked order).number ≡ DONE → order_fits order ≡ true
  unfolding order_fits
  told_fits =
      checked_of order (λ (c : Checked). c.number ≡ DONE → order_fits order ≡ true) (λ l z. absurd (omega (arith, z))) (λ k f z. absurd (f.fault z))
      (λ l g z. rw (
        l,
        every_of fit (records order) (λ j b. (told_good order j (g j b)).0),
        every_of first (records order) (λ j b. ap not (told_good order j (g j b)).1),
      ))

-- ---- an order that fits
module _ (order : List ℕ) (o : order_fits order ≡ true) where
  order_sized : length_fits order ≡ true
  order_sized = (parts order o).0

  pub order_records : (0 < records order) × (records order ≤ row_limit)
  unfolding length_fits
  order_records =
      let whole = eqb (length order % record_bytes) 0 in
      let a = and_left (whole && ltb 0 (records order)) (leb (records order) row_limit) order_sized in
      (ltb-true _ _ (and_right whole (ltb 0 (records order)) a), leb-true _ _ (and_right (whole && ltb 0 (records order)) _ order_sized))

  record-fits : (k : ℕ) → k < records order → record_fits (record_at order k) ≡ true
  record-fits k l = every_at (fit order) (records order) k (parts order o).1 l

  pub order_id : (k : ℕ) → k < records order → 0 < id_at order k
  unfolding record_fits
  order_id k l = leb-true _ _ (holds (tests (record_at order k)) (record-fits k l) 1 (lit< tt))

  below : (j k : ℕ) → j < k → k < records order → id_at order j ≡ id_at order k → ⊥
  below j k b l = first_with order k (not-true _ (every_at (first order) (records order) k (parts order o).2 l)) j b

  pub order_differ : (j k : ℕ) → j < records order → k < records order → id_at order j ≡ id_at order k → j ≡ k
  order_differ j k lj lk e =
      ⊎_elim (λ b. absurd (below j k (ltb-true _ _ b) lk e))
      (λ b. ⊎_elim (λ a. absurd (below k j (ltb-true _ _ a) lj (sym e))) (λ a. omega (arith, ltb-false j k b, ltb-false k j a)) (cases_Bool (ltb k j))) (cases_Bool (ltb j k))

-- ---- an order that is refused
abbrev pub order_numbers : List ℕ
order_numbers = LENGTH ∷ record_numbers

module _ (order : List ℕ) where
  pub record_smallest : (k : ℕ) → Smallest (record_refusals order k) (record_number order k)
  unfolding record_number
  record_smallest k = smallest (record_refusals order k) refl

  record-number : (k : ℕ) → (record_number order k ≡ DONE → ⊥) → among record_numbers (record_number order k) ≡ true
  record-number k u = refuses_among (record_refusals order k) (record_number order k) ((record_smallest k).one u)

  -- a record is named where the number is one of those that name it
  pub names_record : among record_numbers (checked order).number ≡ not (eqb (checked order).bad 0)
  names_record =
      checked_of order (λ (c : Checked). among record_numbers c.number ≡ not (eqb c.bad 0)) (λ l. refl)
      (λ k f. record-number k f.fault ∙ sym (ap not (ne_eqb (k + 1) 0 (λ e. omega (arith, e))))) (λ l g. refl)

  -- and it is the first that is refused
  pub names_first : (k : ℕ) → (checked order).bad ≡ k + 1 → First order k × ((checked order).number ≡ record_number order k)
  names_first =
      checked_of order (λ (c : Checked). (k : ℕ) → c.bad ≡ k + 1 → First order k × (c.number ≡ record_number order k)) (λ l k e. absurd (omega (arith, e)))
      (λ j f k e. let q : j ≡ k = omega (arith, e) in rw (← q) (f, refl)) (λ l g k e. absurd (omega (arith, e)))

  pub bad_within : (checked order).bad ≤ records order
  bad_within =
      checked_of order (λ (c : Checked). c.bad ≤ records order) (λ l. omega arith) (λ k f. omega (arith, f.there)) (λ l g. omega arith)

  pub order_number : order_fits order ≡ false → among order_numbers (checked order).number ≡ true
  order_number o =
      checked_of order (λ (c : Checked). c ≡ checked order → among order_numbers c.number ≡ true) (λ l e. refl)
      (λ k f e. rw (record-number k f.fault) (or-true (eqb (record_number order k) LENGTH)))
      (λ l g e. absurd (clash (told_fits order (ap (λ (c : Checked). c.number) (sym e))) o)) refl
