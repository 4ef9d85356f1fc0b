-- C-16: the NAKs that a row counts, after each access, and where their bytes may not move.
-- Assumes nothing.
use mathlib.Core.Path.{◌≡◌, sym, ◌∙◌, ap}
use mathlib.Core.Bool.{Bool, false}
use mathlib.Core.List.{List}
use Prim.Native.Nat.{ℕ}
use lib.Dec.{lit<}
use Rattle.registers.specs.Layout.{at_nak_low, at_nak_high}
use Rattle.registers.specs.Naks.{low_first, naks}
use Rattle.registers.specs.Registers.{after_write, hardware_reset}
use Rattle.registers.proofs.Values.Counts.{reset_naks}
use Rattle.card.specs.Row.{regs_of, Whole}
use Rattle.card.specs.Access.{row_after_write, row_after_reset}
use Rattle.card.specs.Moves.{OnlyAt}
use Rattle.card.proofs.Rows.Sizes.{whole_registers}
use Rattle.card.proofs.Rows.Bytes.{regs_put, later_at}
use Rattle.card.proofs.Rows.Touched.{regs_write}

pub naks_kept : (r s : List ℕ) {moves : ℕ → Bool} → OnlyAt moves r s → moves at_nak_low ≡ false → moves at_nak_high ≡ false → naks (regs_of s) ≡ naks (regs_of r)
naks_kept r s o a b =
    let low = later_at s 1 (lit< tt) ∙ o.same at_nak_low a ∙ sym (later_at r 1 (lit< tt)) in
    let high = later_at s 2 (lit< tt) ∙ o.same at_nak_high b ∙ sym (later_at r 2 (lit< tt)) in
    ap (λ (x : ℕ). low_first x (regs_of s).later.nakhigh) low ∙ ap (low_first (regs_of r).later.naklow) high

module _ (r : List ℕ) (l : Whole r) where
  pub naks_write : (k v : ℕ) → naks (regs_of (row_after_write r k v)) ≡ naks (after_write (regs_of r) k v)
  naks_write k v = rw (regs_write r l k v)

  pub naks_reset : naks (regs_of (row_after_reset r)) ≡ 0
  naks_reset = ap naks (regs_put r hardware_reset (whole_registers r l)) ∙ reset_naks
