-- A row whose RAM a write of a register may change is as long as it was.
-- Assumes nothing.
use mathlib.Core.List.{List}
use Prim.Native.Nat.{ℕ, ◌+◌}
use native.Mathlib.Omega.{arith}
use lib.Dec.{eqb}
use Rattle.card.specs.Row.{register_bytes, Whole}
use Rattle.card.specs.Access.{ram_written}
use Rattle.bits.proofs.Words.Bools.{pick_of}
use Rattle.card.proofs.Rows.Sizes.{SameSize, size_same, size_set, size_whole}

pub size_ram : (r : List ℕ) (k a v : ℕ) → SameSize r (ram_written r k (register_bytes + a) v)
size_ram r k a v = pick_of (SameSize r) (eqb k 4) (λ _. size_set r (register_bytes + a) v (omega arith)) (λ _. size_same r)

pub whole_ram : (r : List ℕ) (k a v : ℕ) → Whole r → Whole (ram_written r k (register_bytes + a) v)
whole_ram r k a v w = size_whole (size_ram r k a v) w
