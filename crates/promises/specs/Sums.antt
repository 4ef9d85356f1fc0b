-- Document 01, "Sums to prove": "in a single list under one theorem".
-- Assumes nothing.
use Rattle.std.specs.Prelude.{◌≡◌, Bool, true, Some, List, [], ◌∷◌, map, ℕ, take}
use Rattle.registers.specs.declared.regs.Regs.{Regs}
use Rattle.card.specs.declared.packets.Shape.TheVariants.{Malformed}
use Rattle.commands.specs.declared.commands.Command.TheVariants.{Enable}
use Rattle.bits.specs.declared.way.Way.TheVariants.{Transmit, Receive}
use Rattle.bits.specs.Words.{has}
use Rattle.bits.specs.Flags.{AUTO_INC, RESET, CCHEN}
use Rattle.commands.specs.Commands.{command_of}
use Rattle.registers.specs.Registers.{pointer, stepped, shown, hardware_reset, configured, commanded}
use Rattle.card.specs.Packets.{shape_of, data_bytes}
use Rattle.registers.specs.Events.{risen_nid}
use Rattle.table.specs.Network.{rows, top_id}
use Rattle.desk.specs.declared.laps.Taker.{Taker}
use Rattle.desk.specs.Lap.{nodes, answers, invitations, takers, lap_steps}
use Rattle.desk.specs.Demand.{Ready, ids_on_line}

-- an entry's node ID, and its invitations
abbrev pub hop_of : Taker → ℕ × ℕ
hop_of t = (t.id, t.invitations)

pub record Sums : Type 0 where
  -- "COUNT 2 malformed; 3 gives 253; 255 gives 1": whatever byte 3 is, and whatever the page
  pub count_2 : (next : ℕ) (long : Bool) → shape_of 2 next long ≡ Malformed
  pub count_3 : (next : ℕ) (long : Bool) → data_bytes (shape_of 3 next long) ≡ 253
  pub count_255 : (next : ℕ) (long : Bool) → data_bytes (shape_of 255 next long) ≡ 1
  -- "long COUNT 3 malformed; 4 gives 508; 255 gives 257"
  pub long_3 : shape_of 0 3 true ≡ Malformed
  pub long_4 : data_bytes (shape_of 0 4 true) ≡ 508
  pub long_255 : data_bytes (shape_of 0 255 true) ≡ 257
  -- "page of 2C is 3; page of 0B is 2"
  pub page_2c : command_of 0x2c ≡ Some (Enable Receive 3)
  pub page_0b : command_of 0x0b ≡ Some (Enable Transmit 2)
  -- "NID 255 to 0; pointer 1,023 to 0; status 91 after reset": the hardware reset, and a write of RESET = 1
  pub nid_255 : (g : Regs) → g.nid ≡ 255 → (risen_nid g).nid ≡ 0
  pub pointer_1023 : (g : Regs) → has AUTO_INC g.mode ≡ true → pointer g ≡ 1023 → pointer (stepped g) ≡ 0
  pub status_reset : hardware_reset.status ≡ 0x91
  pub status_written : (g : Regs) (v : ℕ) → has RESET v ≡ true → (configured g v).status ≡ 0x91
  -- C-11: the status that a card reads after a reset, once CCHEN is set: RI, TA and POR; and with POR cleared by 0E
  pub shown_reset : (v : ℕ) → has CCHEN v ≡ true → shown (configured hardware_reset v) ≡ 0x70
  pub shown_cleared : (v : ℕ) → has CCHEN v ≡ true → shown (commanded (configured hardware_reset v) (command_of 0x0e)) ≡ 0x60
  -- "ID 200 to 7 takes 64": where 200 is the highest ID on line and 7 the lowest, the lap's first entry is of ID 7, after 64 invitations
  pub from_200_to_7 : (net : List ℕ) → Ready net → top_id net (rows net) ≡ 200 → (l : List ℕ) → ids_on_line net ≡ 7 ∷ l
      → take 1 (map hop_of (takers net 0 (answers (lap_steps net) net))) ≡ (7, 64) ∷ []
  -- "two nodes take 258"
  pub two_nodes : (net : List ℕ) → Ready net → nodes net ≡ 2 → invitations (answers (lap_steps net) net) ≡ 258
