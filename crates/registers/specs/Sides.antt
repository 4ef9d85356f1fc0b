-- C-11, "Buyers of the newer cards set CCHEN": a chaining row, and the two sides of a card, each with its queue.
-- Assumes nothing.
use Rattle.std.specs.Prelude.{Bool}
use Rattle.bits.specs.declared.way.Way.{Way}
use Rattle.bits.specs.declared.way.Way.TheVariants.{Transmit, Receive}
use Rattle.queues.specs.declared.queues.Side.{Side}
use Rattle.registers.specs.declared.regs.Regs.{Regs}
use Rattle.bits.specs.Words.{has}
use Rattle.bits.specs.Flags.{CCHEN}
use Rattle.queues.specs.Queues.{uncleared}
use Rattle.registers.specs.Fields.{with_status, with_transmit, with_receive}

abbrev pub chaining : Regs → Bool
chaining g = has CCHEN g.configuration

abbrev pub side_of : Way → Regs → Side
side_of Transmit g = record { status = g.status; queue = g.transmit }
side_of Receive g = record { status = g.status; queue = g.receive }

-- the card with a side as it has become
abbrev pub with_side : Way → Side → Regs → Regs
with_side Transmit s g = with_status s.status (with_transmit s.queue g)
with_side Receive s g = with_status s.status (with_receive s.queue g)

-- "TTA and TRI set on completion"
abbrev pub tta : Regs → Bool
tta g = uncleared g.transmit

abbrev pub tri : Regs → Bool
tri g = uncleared g.receive
