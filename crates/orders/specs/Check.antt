-- C-12: what is wrong with an order, and with which record.
-- Assumes nothing.
use Rattle.std.specs.Prelude.{Bool, not, Option, Some, None, Result, Ok, Err, List, [], ◌∷◌, ◌++◌, ℕ, ◌+◌, eqb, ltb}
use Rattle.bits.specs.Words.{pick}
use Rattle.told.specs.Numbers.{DONE, LENGTH, MARK, ORDER_ID, FLAGS, NAME, TWICE, Refusal, ◌when◌, told}
use Rattle.table.specs.Folds.{seek}
use Rattle.orders.specs.Form.{records, record_at, length_fits, marked, id_fits, flags_fit, name_fits, repeats}
use Rattle.told.specs.Refusals.{number_of}
use Rattle.orders.specs.declared.bad.Bad as code

-- "MARK 15, ORDER-ID 16, FLAGS 17, NAME 18, TWICE 19, tested in that order within a record": of a record by itself, and of record k of an order
abbrev pub form_refusals : List ℕ → List Refusal
form_refusals r = MARK when not (marked r) ∷ ORDER_ID when not (id_fits r) ∷ FLAGS when not (flags_fit r) ∷ NAME when not (name_fits r) ∷ []

abbrev pub record_refusals : List ℕ → ℕ → List Refusal
record_refusals order k = form_refusals (record_at order k) ++ (TWICE when repeats order k ∷ [])

-- its numbers, those that name a record
abbrev pub record_numbers : List ℕ
record_numbers = MARK ∷ ORDER_ID ∷ FLAGS ∷ NAME ∷ TWICE ∷ []

unfoldable pub record_number : List ℕ → ℕ → ℕ
record_number order k = told (record_refusals order k)

-- "the first bad record is named": the first that is refused; where none is, it is the number of records
abbrev pub refused : List ℕ → ℕ → Bool
refused order k = not (eqb (record_number order k) DONE)

unfoldable pub first_bad : List ℕ → ℕ
first_bad order = seek (refused order) (records order)

-- what is told of an order: the number, and "the record number, from 1", 0 where it names none
pub record Checked : Type 0 where
  pub number : ℕ
  pub bad : ℕ

abbrev pub record_named : Option ℕ → ℕ
record_named None = 0
record_named (Some k) = k

abbrev pub verdict : Result Unit code.Bad → Checked
verdict (Ok u) = record { number = DONE; bad = 0 }
verdict (Err e) = record { number = number_of e.refusal; bad = record_named e.record }

-- "LENGTH before all", and "LENGTH has none"
abbrev pub tells : ℕ → ℕ → Checked
tells number bad = record { number = number; bad = bad }

unfoldable pub checked : List ℕ → Checked
checked order =
    pick (not (length_fits order)) (tells LENGTH 0)
    (pick (ltb (first_bad order) (records order)) (tells (record_number order (first_bad order)) (first_bad order + 1)) (tells DONE 0))
