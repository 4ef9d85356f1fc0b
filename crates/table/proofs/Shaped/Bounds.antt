-- The bounds that a well-formed network gives to whoever lends a part of it: one rule for the header, a row, and all rows.
-- Assumes nothing.
use mathlib.Core.Path.{◌≡◌, refl, sym, ◌∙◌}
use mathlib.Core.Bool.{true}
use mathlib.Core.List.{List}
use Prim.Native.Nat.{ℕ, suc, ◌≤◌, ◌<◌}
use native.Mathlib.Omega.{arith}
use lib.ListN.{length}
use Rattle.table.specs.Rows.{header_bytes, row_start}
use Rattle.table.specs.Network.{rows, shape}
use Rattle.table.proofs.Shaped.Shapes.{shape_least, shape_room, shape_within}

-- the network `new` has room for a header, and for each of the rows of `net`
pub record Bounds (net new : List ℕ) : Type 0 where
  pub header : header_bytes ≤ length new
  pub row : (k : ℕ) → k < rows net → row_start new (suc k) ≤ length new
  pub all : (n : ℕ) → n ≡ rows net → row_start new n ≤ length new

pub new_bounds : (net new : List ℕ) → shape new ≡ true → rows new ≡ rows net → Bounds net new
new_bounds net new s e = record {
  header = shape_least new s;
  row = λ k l. shape_within new s k (omega arith);
  all = λ n q. rw (q ∙ sym e) (shape_room new s);
}

pub bounds : (net : List ℕ) → shape net ≡ true → Bounds net net
bounds net s = new_bounds net net s refl
