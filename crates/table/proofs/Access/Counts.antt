-- C-16: the NAKs that a row counts, after a write and a hardware reset.
-- Assumes nothing.
use mathlib.Core.Path.{◌≡◌, refl, ◌∙◌}
use mathlib.Core.Bool.{true}
use mathlib.Core.List.{List}
use Prim.Native.Nat.{ℕ, ◌<◌}
use borrow.Author.Tests.{eq-eqb}
use Rattle.bits.specs.Words.{pick}
use Rattle.registers.specs.Naks.{naks, drops_naks}
use Rattle.registers.specs.Registers.{hardware_reset}
use Rattle.registers.proofs.Values.Counts.{naks_written}
use Rattle.card.specs.Row.{regs_of}
use Rattle.card.specs.Access.{row_after_write, row_after_reset}
use Rattle.card.proofs.Rows.Bytes.{size_put}
use Rattle.card.proofs.Rows.WellFormed.{size_write}
use Rattle.card.proofs.Rows.Counts.{naks_kept, naks_write, naks_reset}
use Rattle.table.specs.Rows.{row_at}
use Rattle.table.specs.Network.{rows, regs_at, shape}
use Rattle.table.specs.Calls.{place_number, net_write_number, net_after_write, net_after_reset}
use Rattle.table.proofs.Shaped.Shapes.{shape_row_whole}
use Rattle.table.proofs.Access.Others.{settled_keeps}

module _ (net : List ℕ) (s : shape net ≡ true) (k : ℕ) (l : k < rows net) where
  abbrev row : List ℕ
  row = row_at net k

  pub write_naks : (g v : ℕ) → net_write_number net k g v ≡ 0 → naks (regs_at (net_after_write net k g v) k) ≡ pick (drops_naks g v) 0 (naks (regs_at net k))
  unfolding net_after_write
  write_naks g v z =
      rw (eq-eqb _ _ z)
      (naks_kept (row_after_write row g v) _ (settled_keeps net s k l (row_after_write row g v) (size_write row g v)) refl refl
      ∙ naks_write row (shape_row_whole net s k l) g v ∙ naks_written (regs_of row) g v)

  pub reset_naks : place_number net k ≡ 0 → naks (regs_at (net_after_reset net k) k) ≡ 0
  unfolding net_after_reset
  reset_naks z =
      rw (eq-eqb _ _ z)
      (naks_kept (row_after_reset row) _ (settled_keeps net s k l (row_after_reset row) (size_put row hardware_reset)) refl refl ∙ naks_reset row (shape_row_whole net s k l))
