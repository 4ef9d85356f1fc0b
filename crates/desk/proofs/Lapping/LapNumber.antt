-- The refusals of the lap call, put together from what the tests give.
-- Assumes nothing.
use mathlib.Core.Path.{◌≡◌, refl, sym, ◌∙◌}
use mathlib.Core.Bool.{Bool, true, false, not}
use mathlib.Core.List.{List}
use Prim.Native.Nat.{ℕ, ◌≤◌}
use lib.Dec.{eqb}
use lib.ListN.{length}
use borrow.Author.Tests.{not-false, eqb-true, ltb-false}
use Rattle.std.proofs.Common.{Result, Ok}
use Rattle.told.specs.declared.refusals.Refusal.{Refusal}
use Rattle.told.specs.declared.refusals.Refusal.TheVariants.{Shape}
use Rattle.told.specs.Refusals.{number}
use Rattle.told.proofs.Told.Results.{passed_not}
use Rattle.table.specs.Rows.{row_start}
use Rattle.table.proofs.Shaped.Shapes.{shape_room}
use Rattle.told.specs.Numbers.{DONE, SHAPE, BUSY, ALONE, ROOM, Smallest, refuse, refuses}
use Rattle.told.proofs.Told.Smallest.{smallest, none_refuses}
use Rattle.table.specs.Network.{rows, phase, LOST, shape}
use Rattle.desk.specs.Lap.{nodes, lap_refusals, lap_number, lapped}

-- behind SHAPE all rows lie in the bytes
pub all_behind : {A : Type 0} (r : Result A Refusal) (v : A) → r ≡ Ok v → (net : List ℕ) (s : Bool) → number r ≡ refuse DONE SHAPE (not s) → s ≡ shape net
    → (n : ℕ) → n ≡ rows net → row_start net n ≤ length net
all_behind r v w net s h e n q = rw q (shape_room net (sym e ∙ not-false s (passed_not r v Shape (not s) w h)))

module _ (net : List ℕ) (room : ℕ) where
  pub lap_smallest : Smallest (lap_refusals net room) (lapped net room).number
  unfolding lap_refusals lap_number lapped
  lap_smallest = smallest (lap_refusals net room) refl

  -- where the lap is not refused
  module _ (z : lap_number net room ≡ 0) where
    none : (n : ℕ) → refuses (lap_refusals net room) n ≡ false
    unfolding lap_number lap_refusals
    none = none_refuses (lap_refusals net room) refl z

    pub lap_shape : shape net ≡ true
    unfolding lap_refusals
    lap_shape = not-false (shape net) (none SHAPE)

    pub lap_lost : phase net ≡ LOST
    unfolding lap_refusals
    lap_lost = eqb-true _ _ (not-false (eqb (phase net) LOST) (none BUSY))

    pub lap_two : 2 ≤ nodes net
    unfolding lap_refusals
    lap_two = ltb-false (nodes net) 2 (none ALONE)

    pub lap_room : nodes net ≤ room
    unfolding lap_refusals
    lap_room = ltb-false room (nodes net) (none ROOM)
