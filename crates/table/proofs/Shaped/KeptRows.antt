-- What the calls leave of a well formed row: a read and a burst keep it, and a reset leaves it off line.
-- Assumes nothing.
use mathlib.Core.Path.{◌≡◌, ◌∙◌, ap}
use mathlib.Core.Bool.{true, false}
use mathlib.Core.List.{List}
use Prim.Native.Nat.{ℕ}
use Rattle.registers.specs.declared.regs.Regs.{Regs}
use Rattle.card.specs.Row.{Whole, regs_of, put_regs, well_formed}
use Rattle.registers.specs.Fit.{on_line}
use Rattle.registers.specs.Registers.{hardware_reset}
use Rattle.card.specs.Access.{row_after_read, row_after_reset}
use Rattle.registers.specs.Events.{burst}
use Rattle.card.proofs.Rows.Sizes.{whole_registers}
use Rattle.card.proofs.Rows.Bytes.{regs_put, well_fit}
use Rattle.registers.proofs.Values.Fits.{fit_rules}
use Rattle.registers.proofs.Values.FitEvents.{fit_burst}
use Rattle.registers.proofs.Values.SameCard as card
use Rattle.card.proofs.Rows.WellFormed.{well_regs, well_read}
use Rattle.card.proofs.Rows.Touched.{same_row}
use Rattle.table.specs.Network.{on_regs}
use Rattle.table.proofs.Shaped.Kept.{Kept}

module _ (r : List ℕ) (l : Whole r) where
  -- other registers of the same card
  kept_put : (h : Regs) → well_formed (put_regs r h) ≡ true → card.SameCard (regs_of r) h → Kept r (put_regs r h)
  kept_put h w k =
      let e = regs_put r h (whole_registers r l) in record {
        well = w;
        id = ap (λ (g : Regs). g.id) e ∙ k.id;
        online = ap on_line e ∙ card.on_line_same (regs_of r) h k.id k.configuration;
      }

  pub kept_burst : well_formed r ≡ true → Kept r (on_regs burst r)
  kept_burst w =
      kept_put (burst (regs_of r)) (well_regs r l w (burst (regs_of r)) (fit_burst (regs_of r) (fit_rules (regs_of r) (well_fit r w)))) (card.same_burst (regs_of r))

  pub kept_read : (k : ℕ) → well_formed r ≡ true → Kept r (row_after_read r k)
  kept_read k w =
      let c = same_row r l k in
      record { well = well_read r l w k; id = c.id; online = card.on_line_same (regs_of r) (regs_of (row_after_read r k)) c.id c.configuration }

  pub reset_off : on_line (regs_of (row_after_reset r)) ≡ false
  reset_off = ap on_line (regs_put r hardware_reset (whole_registers r l)) ∙ card.reset_off
