-- Document 01, "The saved network": when a card is awake and on line, and when its registers agree with each other.
-- Assumes nothing.
use Rattle.std.specs.Prelude.{Bool, not, ◌&&◌, List, [], ◌∷◌, eqb}
use Rattle.bits.specs.declared.way.Way.TheVariants.{Transmit, Receive}
use Rattle.registers.specs.declared.regs.Regs.{Regs}
use Rattle.bits.specs.Words.{all, clear, has}
use Rattle.bits.specs.Flags.{RESET, TXEN, LOW2, only, status_bits, diagnostic_bits, mask_bits, setup_bits, mode_bits}
use Rattle.queues.specs.Queues as queues
use Rattle.registers.specs.Sides.{chaining, side_of}
use Rattle.registers.specs.Naks.{nak_rules}

-- "Awake: ID not 0 and RESET clear. On line: awake and TXEN set."
unfoldable pub awake : Regs → Bool
awake g = not (eqb g.id 0) && clear RESET g.configuration

unfoldable pub on_line : Regs → Bool
on_line g = awake g && has TXEN g.configuration

-- "Unnamed bits are zero", but for the queues; every bit of the configuration has a name. C-13: byte 32 "may hold anything"
abbrev pub named : Regs → List Bool
named g =
    only status_bits g.status ∷ only diagnostic_bits g.diagnostic ∷ only mask_bits g.mask ∷ only setup_bits g.setup
    ∷ only LOW2 g.high ∷ only mode_bits g.mode ∷ only 1 g.long ∷ []

-- and the count of NAKs agrees with TA and EXCNAK, and each side with the status, with long packets and with CCHEN
unfoldable pub fit : Regs → Bool
fit g =
    all (named g) && all (nak_rules g) && queues.fit Transmit (chaining g) g.long (side_of Transmit g) && queues.fit Receive (chaining g) g.long (side_of Receive g)
