-- Document 01, "Order forms and the lap": a card that was reset takes the writes of loading, and the last of them puts it on line.
-- Assumes nothing.
use mathlib.Core.Path.{◌≡◌}
use mathlib.Core.Bool.{Bool, true, false}
use Prim.Native.Nat.{ℕ}
use lib.Dec.{eqb}
use Rattle.registers.specs.declared.regs.Regs.{Regs}
use Rattle.bits.specs.Words.{pick}
use Rattle.told.proofs.Told.Smallest.{refuse_passed}
use Rattle.registers.specs.Fit.{awake, on_line}
use Rattle.commands.proofs.Carried.{command_0d, command_84}
use Rattle.registers.specs.Registers.{hardware_reset, configured, commanded, writes_id, seventh_written, after_write}
use Rattle.registers.specs.Refusals.{no_register, bad_value, write_refusals, write_number}

-- the registers after configuration 19, after the node ID, after command 0D if long, after command 84 if receive on, after configuration 38
abbrev pub prepared : Regs
prepared = after_write hardware_reset 6 0x19

abbrev pub named : ℕ → Regs
named i = after_write prepared 7 i

abbrev pub sized : ℕ → Bool → Regs
sized i long = pick long (after_write (named i) 1 0x0d) (named i)

abbrev pub opened : ℕ → Bool → Bool → Regs
opened i long receive = pick receive (after_write (sized i long) 1 0x84) (sized i long)

abbrev pub joined : ℕ → Bool → Bool → Regs
joined i long receive = after_write (opened i long receive) 6 0x38

-- none of the five is refused, the card is off line until the last, and then on line with the ID
pub record Loads (i : ℕ) (long receive : Bool) : Type 0 where
  pub prepares : write_number hardware_reset 6 0x19 ≡ 0
  pub names : write_number prepared 7 i ≡ 0
  pub sizes : write_number (named i) 1 0x0d ≡ 0
  pub opens : write_number (sized i long) 1 0x84 ≡ 0
  pub joins : write_number (opened i long receive) 6 0x38 ≡ 0
  pub prepared_off : on_line prepared ≡ false
  pub named_off : on_line (named i) ≡ false
  pub sized_off : on_line (sized i long) ≡ false
  pub opened_off : on_line (opened i long receive) ≡ false
  pub on : on_line (joined i long receive) ≡ true
  pub id : (joined i long receive).id ≡ i

pub loads : (i : ℕ) → eqb i 0 ≡ false → (long receive : Bool) → Loads i long receive
unfolding hardware_reset after_write configured seventh_written commanded writes_id no_register bad_value write_refusals awake on_line
loads i n true true = search (n, command_0d, command_84, refuse_passed)
loads i n true false = search (n, command_0d, command_84, refuse_passed)
loads i n false true = search (n, command_0d, command_84, refuse_passed)
loads i n false false = search (n, command_0d, command_84, refuse_passed)
