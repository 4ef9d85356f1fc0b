-- The lap of an order that was loaded: its records are the nodes on line, and it is refused for one record alone, or for too little room.
-- Assumes nothing.
use mathlib.Core.Path.{◌≡◌, refl, ◌∙◌, ap}
use mathlib.Core.Bool.{not}
use mathlib.Core.List.{List, [], ◌∷◌}
use Prim.Native.Nat.{ℕ, zero, suc, ◌≤◌}
use native.Mathlib.Omega.{arith}
use lib.Dec.{eqb, ltb}
use borrow.Author.Tests.{eq-eqb}
use Rattle.told.specs.Numbers.{DONE, SHAPE, BUSY, ALONE, ROOM, ◌when◌, told}
use Rattle.told.proofs.Told.Smallest.{refuse_passed}
use Rattle.table.specs.Network.{phase, LOST, shape}
use Rattle.orders.specs.Form.{records}
use Rattle.desk.specs.Load.{load_number, net_after_load}
use Rattle.desk.specs.Lap.{online, nodes, lap_refusals, lap_number}
use Rattle.desk.proofs.Loads.Loaded.{loaded_shape, loaded_lost, loaded_rows_lem, loaded_row_lem}

module _ (order net : List ℕ) (z : load_number order net ≡ 0) where
  abbrev new : List ℕ
  new = net_after_load order net

  all_on : (k : ℕ) → k ≤ records order → online new k ≡ k
  unfolding online
  all_on zero l = refl
  all_on (suc k) l = rw ((loaded_row_lem order net z k l).0, all_on k (omega arith))

  pub loaded_nodes : nodes new ≡ records order
  loaded_nodes = ap (online new) (loaded_rows_lem order net z) ∙ all_on (records order) (omega arith)

  pub loaded_lap : (room : ℕ) → lap_number new room ≡ told (ALONE when ltb (records order) 2 ∷ ROOM when ltb room (records order) ∷ [])
  unfolding lap_number lap_refusals
  loaded_lap room =
      rw (
        refuse_passed DONE SHAPE (not (shape new)) (ap not (loaded_shape order net z)),
        refuse_passed DONE BUSY (not (eqb (phase new) LOST)) (ap not (eq-eqb _ _ (loaded_lost order net z))),
        loaded_nodes,
      )
