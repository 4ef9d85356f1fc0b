-- The tests of a record, as the code makes them.
-- Assumes nothing.
use mathlib.Core.Path.{◌≡◌, refl, ap, sym, ◌∙◌}
use mathlib.Core.Bool.{Bool, not}
use mathlib.Core.List.{List}
use mathlib.Core.Logic.{⊎_elim}
use Prim.Native.Nat.{ℕ}
use lib.Dec.{eqb, leb, ltb}
use borrow.Author.Tests.{ltb-true, ltb-false, le-leb, lt-leb}
use Rattle.std.proofs.Common.{Option}
use Rattle.std.specs.Option.{is_some}
use Rattle.std.proofs.lemmas.Bool.{cases_Bool}
use Rattle.bits.proofs.Words.Bools.{pick_of}
use Rattle.table.specs.Folds.{some, seek, below}
use Rattle.table.proofs.Folds.{some_found, some_missed}
use Rattle.orders.specs.Form.{id_at, repeats}

pub above : (a b : ℕ) → ltb a b ≡ not (leb b a)
above a b = ⊎_elim (λ t. rw t (sym (ap not (lt-leb b a (ltb-true a b t))))) (λ t. rw t (sym (ap not (le-leb b a (ltb-false a b t))))) (cases_Bool (ltb a b))

-- a search for the ID of record k among the records before it tells whether one has it
pub repeats_is : (order : List ℕ) (k i : ℕ) (o : Option ℕ) → i ≡ id_at order k → o ≡ below k (seek (λ j. eqb (id_at order j) i) k) → is_some o ≡ repeats order k
unfolding repeats
repeats_is order k i o e d =
    let f : ℕ → Bool = λ j. eqb (id_at order j) (id_at order k) in
    ap is_some (rw e at d)
    ∙ pick_of (λ (o : Option ℕ). is_some o ≡ some f k) (ltb (seek f k) k) (λ t. sym (some_found f k _ refl (ltb-true _ k t)))
    (λ t. sym (some_missed f k _ refl (ltb-false _ k t)))
