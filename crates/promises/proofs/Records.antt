-- C-12: the number and the record that are told of an order, and what loading tells.
-- Assumes nothing.
use mathlib.Core.Path.{◌≡◌, sym, ◌∙◌, ap}
use mathlib.Core.Bool.{Bool, true, false, not}
use mathlib.Core.List.{List, ◌∷◌}
use mathlib.Core.Logic.{⊎_elim}
use Prim.Native.Nat.{ℕ, ◌+◌}
use native.Mathlib.Omega.{arith}
use lib.Dec.{eqb}
use lib.ListN.{length}
use borrow.Author.Tests.{eqb-true, not-false}
use Rattle.bits.specs.Words.{pick, among}
use Rattle.std.proofs.lemmas.Bool.{cases_Bool}
use Rattle.told.specs.Numbers.{DONE, LENGTH, ROOM, ◌when◌, told}
use Rattle.told.proofs.Told.Smallest.{refuse_held, refuse_passed, refuse_stays}
use Rattle.table.specs.Calls.{exact_length}
use Rattle.orders.specs.Check.{Checked}
use Rattle.orders.specs.Form.{records, length_fits, order_fits}
use Rattle.orders.specs.Check.{record_numbers, record_number, checked}
use Rattle.orders.proofs.Checks.Told.{tells_length}
use Rattle.orders.proofs.Checks.Fit.{order_numbers, fits_told, told_fits, told_good, first_with, record_smallest, names_record, names_first, order_number}
use Rattle.desk.specs.Load.{room_refusals, loading, load_number}
use Rattle.desk.proofs.Loads.Loaded.{order_first, load_room}
use Rattle.promises.specs.WhichRecord.{Good, FirstBad, WhichRecord}

-- ---- an order
good : (order : List ℕ) (j : ℕ) → record_number order j ≡ DONE → Good order j
good order j z = let g = told_good order j z in record { fits = g.0; first = first_with order j g.1 }

first_bad_lem : (order : List ℕ) (k : ℕ) → (checked order).bad ≡ k + 1 → FirstBad order k (checked order).number
first_bad_lem order k e =
    let n = names_first order k e in
    let f = n.0 in record {
      sized = f.sized;
      there = f.there;
      before = λ j l. good order j (f.before j l);
      refused = λ z. f.fault (sym n.1 ∙ z);
      fault = rw n.1 (record_smallest order k);
    }

-- ---- loading
module _ (order net : List ℕ) where
  pub load_unnamed : among record_numbers (load_number order net) ≡ false → (loading order net).bad ≡ 0
  load_unnamed a =
      ⊎_elim (λ o. ap (λ (c : Checked). c.bad) (load_room order net o))
      (λ o. let l = order_first order net o in
      ap (λ (c : Checked). c.bad) l ∙ eqb-true _ _ (not-false _ (sym (names_record order) ∙ ap (λ (c : Checked). among record_numbers c.number) (sym l) ∙ a)))
      (cases_Bool (order_fits order))

  -- the six numbers of an order read as 14
  abbrev read : ℕ → ℕ
  read n = pick (among order_numbers n) 14 n

  abbrev long : Bool
  long = not (eqb (length net) (exact_length (records order)))

  room_before : told (room_refusals order net) ≡ read (told (room_refusals order net))
  room_before =
      ⊎_elim (λ (t : long ≡ true). rw (refuse_held ROOM long t)) (λ (t : long ≡ false). rw (refuse_passed DONE ROOM long t)) (cases_Bool long)

  before : read (load_number order net) ≡ told (14 when not (order_fits order) ∷ room_refusals order net)
  before =
      ⊎_elim (λ o. ap (λ (c : Checked). read c.number) (load_room order net o) ∙ sym room_before ∙ rw (refuse_passed DONE 14 (not (order_fits order)) (ap not o)))
      (λ o. ap (λ (c : Checked). read c.number) (order_first order net o)
      ∙ rw (order_number order o, refuse_held 14 (not (order_fits order)) (ap not o), refuse_stays 14 ROOM long (λ z. omega (arith, z))))
      (cases_Bool (order_fits order))

pub which_record : WhichRecord
which_record = record {
  fits = told_fits;
  done = fits_told;
  length = λ order l. sym (tells_length order LENGTH (λ z. omega (arith, z)) (sym (refuse_held LENGTH (not (length_fits order)) (ap not l))));
  names = names_record;
  first = first_bad_lem;
  before = before;
}
