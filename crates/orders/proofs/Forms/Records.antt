-- Where the records of an order lie.
-- Assumes nothing.
use mathlib.Core.Path.{◌≡◌}
use mathlib.Core.List.{List}
use Prim.Native.Nat.{ℕ, ◌+◌, ◌*◌, ◌≤◌, ◌<◌}
use native.Mathlib.Omega.{arith}
use lib.ListN.{length, drop, length-drop}
use lib.Seq.{length-take-le}
use Rattle.orders.specs.Form.{record_bytes, records, record_at}

pub records_within : (order : List ℕ) → record_bytes * records order ≤ length order
unfolding records
records_within order = omega arith

pub record_within : (order : List ℕ) (k : ℕ) → k < records order → record_bytes * k + record_bytes ≤ length order
record_within order k l = omega (arith, records_within order)

pub length_record_at : (order : List ℕ) (k : ℕ) → record_bytes * k + record_bytes ≤ length order → length (record_at order k) ≡ record_bytes
unfolding record_at
length_record_at order k h = length-take-le record_bytes (drop (record_bytes * k) order) (simp length-drop (omega arith))
