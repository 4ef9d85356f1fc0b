-- Document 01, "The saved network": the bytes of a row that hold the registers, and those that each access may change.
-- Assumes nothing.
use Rattle.std.specs.Prelude.{Bool, ◌&&◌, ◌||◌, List, [], ◌∷◌, ◌++◌, ℕ, eqb, leb}
use Rattle.registers.specs.declared.regs.Regs.{Regs}
use Rattle.bits.specs.Words.{pick}
use Rattle.registers.specs.Sides.{chaining}
use Rattle.registers.specs.Registers.{sub, read_fetches}

-- "Register bytes of a row: .. 2 node ID; 3 status; 4 diagnostic status; 5 interrupt mask; 6 configuration; 7 setup; 8 tentative ID; 9 NID; 10 pointer high (0-3);
-- 11 pointer low; 12 mode ..; 13 transmit ..; 14 receive ..; 15 long packets 0 or 1"
abbrev pub at_id : ℕ
at_id = 2

abbrev pub at_status : ℕ
at_status = 3

abbrev pub at_diagnostic : ℕ
at_diagnostic = 4

abbrev pub at_mask : ℕ
at_mask = 5

abbrev pub at_configuration : ℕ
at_configuration = 6

abbrev pub at_setup : ℕ
at_setup = 7

abbrev pub at_tentative : ℕ
at_tentative = 8

abbrev pub at_nid : ℕ
at_nid = 9

abbrev pub at_high : ℕ
at_high = 10

abbrev pub at_low : ℕ
at_low = 11

abbrev pub at_mode : ℕ
at_mode = 12

abbrev pub at_transmit : ℕ
at_transmit = 13

abbrev pub at_receive : ℕ
at_receive = 14

abbrev pub at_long : ℕ
at_long = 15

-- C-11: "16 second transmit ..; 17 second receive ..; 18 uncleared transmit completions ..; 19 uncleared receive completions"
abbrev pub at_second_transmit : ℕ
at_second_transmit = 16

abbrev pub at_second_receive : ℕ
at_second_receive = 17

abbrev pub at_sent : ℕ
at_sent = 18

abbrev pub at_received : ℕ
at_received = 19

-- C-13: "Keep that byte in row byte 32"; C-16: "Row bytes 33-34 count them", low byte first
abbrev pub at_fetched : ℕ
at_fetched = 32

abbrev pub at_nak_low : ℕ
at_nak_low = 33

abbrev pub at_nak_high : ℕ
at_nak_high = 34

-- the registers in the order of their bytes, from the node ID on; and from 32 on
abbrev pub bytes_of : Regs → List ℕ
bytes_of g =
    g.id ∷ g.status ∷ g.diagnostic ∷ g.mask ∷ g.configuration ∷ g.setup ∷ g.tentative ∷ g.nid ∷ g.high ∷ g.low ∷ g.mode ∷
    g.transmit.oldest ∷ g.receive.oldest ∷ g.long ∷ g.transmit.second ∷ g.receive.second ∷ g.transmit.done ∷ g.receive.done ∷ []

abbrev pub later_of : Regs → List ℕ
later_of g = g.later.fetched ∷ g.later.naklow ∷ g.later.nakhigh ∷ []

-- the bytes of a row that hold registers
abbrev pub held : ℕ → Bool
held i = leb at_id i && leb i at_received || leb at_fetched i && leb i at_nak_high

-- the bytes of the queues: those behind 15 are of a chaining row alone
abbrev pub transmit_bytes : Bool → List ℕ
transmit_bytes chaining = at_transmit ∷ pick chaining (at_second_transmit ∷ at_sent ∷ []) []

abbrev pub receive_bytes : Bool → List ℕ
receive_bytes chaining = at_receive ∷ pick chaining (at_second_receive ∷ at_received ∷ []) []

abbrev pub queue_bytes : Bool → List ℕ
queue_bytes chaining = transmit_bytes chaining ++ receive_bytes chaining

-- where NAKs are counted: the count, and EXCNAK
abbrev pub nak_bytes : List ℕ
nak_bytes = at_diagnostic ∷ at_nak_low ∷ at_nak_high ∷ []

-- the register bytes that a hardware reset may change: "ID, tentative ID, NID, mask, setup, pointer, mode and diagnostic 0, configuration 18 hex, status 91 hex,
-- bytes 13-15 zero"; C-11: 16-31 too; C-13: byte 32; C-16: the count
abbrev pub reset_bytes : Bool → List ℕ
reset_bytes chaining =
    at_id ∷ at_tentative ∷ at_nid ∷ at_mask ∷ at_setup ∷ at_high ∷ at_low ∷ at_mode ∷ at_configuration ∷ at_status ∷ at_long ∷ at_fetched ∷ nak_bytes ++ queue_bytes chaining

-- those that a read may change, of a card with the registers g: "1 gives diagnostic status and then zeroes it", but EXCNAK; of 4 with AUTO-INC, the pointer and the fetched byte
abbrev pub read_changes : Regs → ℕ → List ℕ
read_changes g k = pick (eqb k 1) (at_diagnostic ∷ []) (pick (read_fetches g k) (at_high ∷ at_low ∷ at_fetched ∷ []) [])

-- those that a write may change, of a card with the registers g: the mask; what a command does; mode; of 3, the pointer and the fetched byte;
-- of 4, the pointer; what a software reset does, and the configuration; "7 by sub-address"
abbrev pub write_bytes : Bool → Regs → ℕ → List ℕ
write_bytes chaining g k =
    pick (eqb k 0) (at_mask ∷ [])
    (pick (eqb k 1) (at_status ∷ at_long ∷ nak_bytes ++ queue_bytes chaining)
    (pick (eqb k 2) (at_mode ∷ [])
    (pick (eqb k 3) (at_high ∷ at_low ∷ at_fetched ∷ [])
    (pick (eqb k 4) (at_high ∷ at_low ∷ [])
    (pick (eqb k 6) (at_configuration ∷ at_status ∷ at_mask ∷ at_long ∷ nak_bytes ++ queue_bytes chaining)
    (pick (eqb k 7) (pick (eqb (sub g) 0) (at_tentative ∷ []) (pick (eqb (sub g) 1) (at_id ∷ []) (at_setup ∷ []))) []))))))

abbrev pub write_changes : Regs → ℕ → List ℕ
write_changes g k = write_bytes (chaining g) g k
