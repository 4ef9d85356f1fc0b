-- C-12, "tell the clerk which row": what the number and the record that are told of an order say of it.
-- Assumes nothing.
use Rattle.std.specs.Prelude.{◌≡◌, true, false, not, List, ◌∷◌, ℕ, ◌+◌, ◌<◌, eqb}
use Rattle.bits.specs.Words.{pick, among}
use Rattle.told.specs.Numbers.{DONE, LENGTH, ◌when◌, told, Smallest}
use Rattle.orders.specs.Form.{records, record_at, length_fits, record_fits, id_at, order_fits}
use Rattle.orders.specs.Check.{record_refusals, record_numbers, tells, checked}
use Rattle.desk.specs.Load.{room_refusals, load_number}

-- record j is good: it is as document 01 has it, and no record before it has its ID
pub record Good (order : List ℕ) (j : ℕ) : Type 0 where
  pub fits : record_fits (record_at order j) ≡ true
  pub first : (i : ℕ) → i < j → id_at order i ≡ id_at order j → ⊥

-- record k is the first bad one: each before it is good, and it has the fault of that number and none of a smaller
pub record FirstBad (order : List ℕ) (k number : ℕ) : Type 0 where
  pub sized : length_fits order ≡ true
  pub there : k < records order
  pub before : (j : ℕ) → j < k → Good order j
  pub refused : number ≡ DONE → ⊥
  pub fault : Smallest (record_refusals order k) number

pub record WhichRecord : Type 0 where
  -- the number is 0 exactly where the order is as document 01 has it
  pub fits : (order : List ℕ) → (checked order).number ≡ DONE → order_fits order ≡ true
  pub done : (order : List ℕ) → order_fits order ≡ true → checked order ≡ tells DONE 0
  -- "LENGTH before all", and it names none
  pub length : (order : List ℕ) → length_fits order ≡ false → checked order ≡ tells LENGTH 0
  -- a record is named where the number is one of a record's, and nowhere else; it is the first bad one, counted from 1
  pub names : (order : List ℕ) → among record_numbers (checked order).number ≡ not (eqb (checked order).bad 0)
  pub first : (order : List ℕ) (k : ℕ) → (checked order).bad ≡ k + 1 → FirstBad order k (checked order).number
  -- what loading told before C-12 it tells still, with the six numbers of an order read as 14, which they were
  pub before : (order net : List ℕ) → pick (among (LENGTH ∷ record_numbers) (load_number order net)) 14 (load_number order net)
      ≡ told (14 when not (order_fits order) ∷ room_refusals order net)
