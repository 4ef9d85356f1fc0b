-- What a read and the interrupt call tell leaves one result.
-- Assumes nothing.
use mathlib.Core.Path.{◌≡◌, refl}
use mathlib.Core.Bool.{Bool, false}
use Prim.Native.Nat.{ℕ}
use Rattle.std.proofs.Common.{Result, Ok, Err}
use Rattle.told.specs.declared.refusals.Refusal.{Refusal}
use Rattle.told.proofs.Told.One.{one_by, refusal_of, refusal_back, result_of, refused_back}
use Rattle.table.specs.Calls.{Reading, reading, Interrupting, interrupting}

abbrev read_result : Reading → Result ℕ Refusal
read_result g = result_of g.number g.value (refusal_of g.number)

reading_back : (r : Result ℕ Refusal) → read_result (reading r) ≡ r
reading_back (Ok v) = refl
reading_back (Err e) = refused_back e 0 (refusal_back e)

pub reading_one : (r s : Result ℕ Refusal) → reading r ≡ reading s → r ≡ s
reading_one = one_by reading read_result reading_back

abbrev interrupt_result : Interrupting → Result Bool Refusal
interrupt_result g = result_of g.number g.active (refusal_of g.number)

interrupting_back : (r : Result Bool Refusal) → interrupt_result (interrupting r) ≡ r
interrupting_back (Ok b) = refl
interrupting_back (Err e) = refused_back e false (refusal_back e)

pub interrupting_one : (r s : Result Bool Refusal) → interrupting r ≡ interrupting s → r ≡ s
interrupting_one = one_by interrupting interrupt_result interrupting_back
