-- Lists of zeros: the header's, and those of a new row.
-- Assumes nothing.
use mathlib.Core.Path.{◌≡◌, refl}
use mathlib.Core.Bool.{true}
use mathlib.Core.List.{List, ◌++◌}
use Prim.Native.Nat.{ℕ, suc, zero}
use borrow.Rule.Slice.PartMut.{post_of}
use lib.ListN.{replicate}
use Rattle.card.specs.Row.{row_bytes, mark, put_regs, zeros}
use Rattle.registers.specs.declared.regs.Regs.{Regs}
use Rattle.registers.specs.Registers.{hardware_reset}
use Rattle.card.specs.Access.{fresh_row}

pub zeros_replicate : (n : ℕ) → zeros (replicate n 0) ≡ true
unfolding zeros
zeros_replicate zero = refl
zeros_replicate (suc n) = zeros_replicate n

-- a row of zeros with the mark and a hardware reset's registers is a fresh row
pub created : (m z : List ℕ) (g : Regs) → m ≡ mark → z ≡ replicate row_bytes 0 → g ≡ hardware_reset → put_regs (m ++ post_of 0 2 z) g ≡ fresh_row
unfolding fresh_row
created m z g a b e = rw (a, b, e)
