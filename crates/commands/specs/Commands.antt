-- Document 01, "Registers": the twenty command bytes, the two of C-11, and what each is by its bits.
-- Assumes nothing.
use Rattle.std.specs.Prelude.{Bool, true, false, not, Option, Some, None, List, [], ◌∷◌, ℕ, ◌+◌, ◌*◌, ◌/◌, ◌%◌, eqb}
use Rattle.std.specs.Int.Bits.{bit_and}
use Rattle.bits.specs.declared.way.Way.TheVariants.{Transmit, Receive}
use Rattle.commands.specs.declared.commands.Command.{Command}
use Rattle.commands.specs.declared.commands.Command.TheVariants.{Disable, Enable, LongPackets, ClearFlags, Clear}
use Rattle.bits.specs.Words.{pick, has, raise_if}
use Rattle.bits.specs.Flags.{BROADCASTS}

-- "Twenty command bytes are legal, in hex", in the order in which document 01 lists them
abbrev pub legal_bytes : List ℕ
legal_bytes =
    0x01 ∷ 0x02 ∷ 0x03 ∷ 0x0b ∷ 0x23 ∷ 0x2b ∷ 0x04 ∷ 0x0c ∷ 0x24 ∷ 0x2c ∷ 0x84 ∷ 0x8c ∷ 0xa4 ∷ 0xac ∷ 0x05 ∷ 0x0d ∷ 0x06 ∷ 0x0e ∷ 0x16 ∷
    0x1e ∷ []

-- C-11: "Clear Transmit Interrupt (00) or Clear Receive Interrupt (08)", which are legal in a chaining row alone
abbrev pub chain_bytes : List ℕ
chain_bytes = 0x00 ∷ 0x08 ∷ []

-- "Bit 3 is n, bit 5 is f; page = 2n + f"
abbrev pub page_of : ℕ → ℕ
page_of c = 2 * (c / 8 % 2) + c / 32 % 2

-- the low three bits say the kind; 00f0 n011, b0f0 n100, 0000 c101 and 000r p110 are the layouts with bits to choose
unfoldable pub command_of : ℕ → Option Command
command_of c =
    pick (eqb c 0x00) (Some (Clear Transmit))
    (pick (eqb c 0x08) (Some (Clear Receive))
    (pick (eqb c 0x01) (Some (Disable Transmit))
    (pick (eqb c 0x02) (Some (Disable Receive))
    (pick (eqb (bit_and c 0xd7) 0x03) (Some (Enable Transmit (page_of c)))
    (pick (eqb (bit_and c 0x57) 0x04) (Some (Enable Receive (raise_if (has 0x80 c) BROADCASTS (page_of c))))
    (pick (eqb (bit_and c 0xf7) 0x05) (Some (LongPackets (c / 8 % 2)))
    (pick (eqb (bit_and c 0xe7) 0x06) (Some (ClearFlags (has 0x08 c) (has 0x10 c)))
    None)))))))

-- a byte that is no command; and C-11: "VALUE no longer meets .. commands 00 and 08 in a chaining row"
abbrev pub illegal : Bool → Option Command → Bool
illegal chaining None = true
illegal chaining (Some (Disable w)) = false
illegal chaining (Some (Enable w entry)) = false
illegal chaining (Some (LongPackets l)) = false
illegal chaining (Some (ClearFlags p r)) = false
illegal chaining (Some (Clear w)) = not chaining
