-- What loading tells where the order does not fit: what its check told, whatever the network's length. It has a file of its own, since
-- must-fail/room_first.edit changes its proof with the definition.
-- Assumes nothing.
use mathlib.Core.Path.{◌≡◌, ap}
use mathlib.Core.Bool.{not}
use mathlib.Core.List.{List}
use Prim.Native.Nat.{ℕ}
use lib.Dec.{eqb}
use lib.ListN.{length}
use Rattle.told.specs.Numbers.{DONE, ROOM}
use Rattle.told.proofs.Told.Smallest.{refuse_stays}
use Rattle.table.specs.Calls.{exact_length}
use Rattle.orders.specs.Form.{records}
use Rattle.orders.specs.Check.{tells, checked}
use Rattle.desk.specs.Load.{loading}

pub load_order : (order net : List ℕ) → ((checked order).number ≡ DONE → ⊥) → loading order net ≡ checked order
unfolding loading
load_order order net u =
    ap (λ (n : ℕ). tells n (checked order).bad) (refuse_stays (checked order).number ROOM (not (eqb (length net) (exact_length (records order)))) u)
