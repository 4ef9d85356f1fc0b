-- C-16 leaves a row that no NAK is counted of as it was: what it changed, without it, and that those in use are these for such a row.
-- Assumes nothing.
use Rattle.std.specs.Prelude.{◌≡◌, Some, Bool, ◌&&◌, ◌||◌}
use Rattle.registers.specs.declared.regs.Regs.{Regs}
use Rattle.bits.specs.declared.way.Way.TheVariants.{Transmit}
use Rattle.commands.specs.declared.commands.Command.TheVariants.{ClearFlags}
use Rattle.bits.specs.Words.{pick, has, lower}
use Rattle.bits.specs.Flags.{RI, POR, RECON, TA}
use Rattle.queues.specs.Queues as queues
use Rattle.registers.specs.Fields.{with_status, with_diagnostic, with_mask, with_transmit, with_receive, with_long}
use Rattle.registers.specs.Sides.{chaining, side_of, with_side, tta, tri}
use Rattle.registers.specs.Registers.{after_read, software_reset, interrupt, commanded}
use Rattle.registers.specs.Events.{receive_cancelled, cancelled, sent}

pub record Unrefused (g : Regs) : Type 0 where
  -- a transmit ends, a cancel takes effect, Clear Flags: nothing else changes
  pub sent : (acknowledged : Bool) → sent g acknowledged ≡ with_side Transmit (queues.ended Transmit (chaining g) acknowledged (side_of Transmit g)) g
  pub cancelled : cancelled g ≡ receive_cancelled (with_side Transmit (queues.cancelled Transmit (side_of Transmit g)) g)
  pub flags : (p r : Bool) → commanded g (Some (ClearFlags p r)) ≡ with_status (lower (pick p POR 0) (lower (pick r RECON 0) g.status)) g
  -- "diagnostic and mask 0, bytes 13-15 zero"
  pub reset : software_reset g ≡ with_status 0x91 (with_diagnostic 0 (with_mask 0 (with_transmit queues.none (with_receive queues.none (with_long 0 g)))))
  -- "1 gives diagnostic status and then zeroes it"
  pub read : after_read g 1 ≡ with_diagnostic 0 g
  -- "POR is set, or RI, RECON or TA is set with its mask bit"
  pub interrupt : interrupt g
      ≡ (has POR g.status || pick (chaining g) (tri g) (has RI g.status) && has RI g.mask || has RECON g.status && has RECON g.mask
      || pick (chaining g) (tta g) (has TA g.status) && has TA g.mask)
