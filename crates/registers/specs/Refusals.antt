-- Document 01, "Numbers a caller may get": the refusals of a register access.
-- Assumes nothing.
use Rattle.std.specs.Prelude.{Option, Some, None, Bool, false, not, ◌&&◌, ◌||◌, List, [], ◌∷◌, ℕ, eqb, ltb}
use Rattle.registers.specs.declared.regs.Regs.{Regs}
use Rattle.commands.specs.declared.commands.Command.{Command}
use Rattle.commands.specs.declared.commands.Command.TheVariants.{Disable, Enable, LongPackets, ClearFlags, Clear}
use Rattle.bits.specs.Words.{clear, has}
use Rattle.bits.specs.Flags.{RI, TA, RDDATA, only, mask_bits, setup_bits, mode_bits}
use Rattle.told.specs.Numbers.{REGISTER, VALUE, NOTREADY, DIRECTION, BUSY, ONLINE, PAGE, Refusal, ◌when◌, told}
use Rattle.registers.specs.Fit.{awake, on_line}
use Rattle.commands.specs.Commands.{command_of, illegal}
use Rattle.queues.specs.Queues.{full}
use Rattle.registers.specs.Sides.{chaining, side_of}
use Rattle.registers.specs.Registers.{sub, changes_chaining, writes_id}

-- "3 REGISTER: above 7; 5; 7 with sub-address 11; write of 7 and read of 7 alike"
unfoldable pub no_register : Regs → ℕ → Bool
no_register g k = ltb 7 k || eqb k 5 || eqb k 7 && eqb (sub g) 3

-- "4 VALUE: unnamed bit, .., illegal command"; a configuration has no unnamed bit
unfoldable pub bad_value : Regs → ℕ → ℕ → Bool
bad_value g k v =
    eqb k 0 && not (only mask_bits v) || eqb k 1 && illegal (chaining g) (command_of v) || eqb k 2 && not (only mode_bits v)
    || eqb k 7 && eqb (sub g) 2 && not (only setup_bits v)

-- "7 BUSY: Enable with TA (RI) 0", in a chaining row with two waiting; "05 or 0D with TA or RI 0"
abbrev pub busy : Regs → Option Command → Bool
busy g None = false
busy g (Some (Disable w)) = false
busy g (Some (Enable w entry)) = full w (chaining g) (side_of w g)
busy g (Some (LongPackets l)) = clear TA g.status || clear RI g.status
busy g (Some (ClearFlags p r)) = false
busy g (Some (Clear w)) = false

-- C-11: "changing CCHEN with work waiting is BUSY"
abbrev pub chain_busy : Regs → ℕ → Bool
chain_busy g v = changes_chaining g v && (clear TA g.status || clear RI g.status)

-- "9 PAGE: Enable with f = 1 and long packets 1"
abbrev pub odd_page : Regs → Option Command → Bool
odd_page g None = false
odd_page g (Some (Disable w)) = false
odd_page g (Some (Enable w entry)) = has 1 entry && eqb g.long 1
odd_page g (Some (LongPackets l)) = false
odd_page g (Some (ClearFlags p r)) = false
odd_page g (Some (Clear w)) = false

-- "6 DIRECTION: register 4 read with RDDATA 0 .."
unfoldable pub read_refusals : Regs → ℕ → List Refusal
read_refusals g k = REGISTER when no_register g k ∷ DIRECTION when (eqb k 4 && clear RDDATA g.mode) ∷ []

-- ".. or written with 1"; "5 NOTREADY: command to a row not awake"; "8 ONLINE: node ID write to an on-line row"
unfoldable pub write_refusals : Regs → ℕ → ℕ → List Refusal
write_refusals g k v =
    REGISTER when no_register g k
    ∷ VALUE when bad_value g k v
    ∷ NOTREADY when (eqb k 1 && not (awake g))
    ∷ DIRECTION when (eqb k 4 && has RDDATA g.mode)
    ∷ BUSY when (eqb k 1 && busy g (command_of v) || eqb k 6 && chain_busy g v)
    ∷ ONLINE when (on_line g && writes_id g k)
    ∷ PAGE when (eqb k 1 && odd_page g (command_of v)) ∷ []

abbrev pub write_number : Regs → ℕ → ℕ → ℕ
write_number g k v = told (write_refusals g k v)
