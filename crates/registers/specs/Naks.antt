-- C-16, "Who refused": the NAKs to one Enable, which the sender counts, and EXCNAK.
-- Assumes nothing.
use Rattle.std.specs.Prelude.{Option, Some, None, Bool, false, ◌&&◌, ◌||◌, List, [], ◌∷◌, ℕ, ◌+◌, ◌*◌, eqb, leb, ltb}
use Rattle.registers.specs.declared.regs.Regs.{Regs}
use Rattle.commands.specs.declared.commands.Command.{Command}
use Rattle.commands.specs.declared.commands.Command.TheVariants.{Disable, Enable, LongPackets, ClearFlags, Clear}
use Rattle.bits.specs.Words.{pick, clear, has, raise_if, lower}
use Rattle.bits.specs.Flags.{TA, EXCNAK, RESET}
use Rattle.commands.specs.Commands.{command_of}
use Rattle.registers.specs.Fields.{with_diagnostic, with_naks}

-- "the number that document 000's diagnostic table gives"
abbrev pub nak_limit : ℕ
nak_limit = 128

-- "Row bytes 33-34 count them", low byte first
abbrev pub low_first : ℕ → ℕ → ℕ
low_first low high = low + 256 * high

abbrev pub naks : Regs → ℕ
naks g = low_first g.later.naklow g.later.nakhigh

-- they "stay at that number"; and one more
abbrev pub up_to_limit : ℕ → ℕ
up_to_limit n = pick (ltb n nak_limit) n nak_limit

abbrev pub next_naks : Regs → ℕ
next_naks g = up_to_limit (naks g + 1)

-- "EXCNAK is set in the sender when NAKs to one Enable reach the number"
abbrev pub nak_counted : Regs → Regs
nak_counted g = with_diagnostic (raise_if (eqb (next_naks g) nak_limit) EXCNAK g.diagnostic) (with_naks (next_naks g) 0 g)

-- bit and count "go to 0", where b says so
abbrev pub naks_dropped : Bool → Regs → Regs
naks_dropped b g =
    with_diagnostic (pick b (lower EXCNAK g.diagnostic) g.diagnostic) (with_naks (pick b 0 g.later.naklow) (pick b 0 g.later.nakhigh) g)

-- the writes that do so: "Clear Flags with bit 3 or reset"
abbrev pub drops_command : Option Command → Bool
drops_command None = false
drops_command (Some (Disable w)) = false
drops_command (Some (Enable w entry)) = false
drops_command (Some (LongPackets l)) = false
drops_command (Some (ClearFlags p r)) = p
drops_command (Some (Clear w)) = false

abbrev pub drops_naks : ℕ → ℕ → Bool
drops_naks k v = eqb k 1 && drops_command (command_of v) || eqb k 6 && has RESET v

-- the count is at most the number, is not 0 only with TA 0, and EXCNAK is 1 exactly when it is the number
abbrev pub nak_rules : Regs → List Bool
nak_rules g =
    leb (naks g) nak_limit ∷ (eqb (naks g) 0 || clear TA g.status)
    ∷ pick (eqb (naks g) nak_limit) (has EXCNAK g.diagnostic) (clear EXCNAK g.diagnostic) ∷ []
