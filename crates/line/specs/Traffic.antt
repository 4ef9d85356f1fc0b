-- Document 01, "One line step": what reaches the rows, storing, and TAKEN, the holder's packet.
-- Assumes nothing.
use Rattle.std.specs.Prelude.{◌≡◌, ◌<◌, Bool, true, false, not, ◌&&◌, ◌||◌, List, ℕ, eqb, ltb}
use Rattle.registers.specs.declared.regs.Regs.{Regs}
use Rattle.card.specs.declared.packets.Packet.{Packet}
use Rattle.line.specs.declared.passes.Event.{Event}
use Rattle.line.specs.declared.passes.Event.TheVariants.{Recovery, Message, Taken}
use Rattle.line.specs.declared.traffic.Outcome.{Outcome}
use Rattle.line.specs.declared.traffic.Outcome.TheVariants.{Nothing, Malformed, Broadcast, NoAnswer, Nak, Delivered, Unacknowledged}
use Rattle.bits.specs.Words.{pick}
use Rattle.card.specs.Row.{regs_of}
use Rattle.card.specs.Packets.{page_at, malformed, page_shape, destination, packet_at, stored, stamped}
use Rattle.registers.specs.Events.{recovered, heard, answered, received, cancelled, sent, enquired, transmitting, receiving, takes_broadcasts, transmit_page, receive_page}
use Rattle.card.specs.Packets.{storable}
use Rattle.table.specs.Rows.{row_at, set_row, each_row}
use Rattle.table.specs.Network.{rows, on_regs, regs_at, node_of, shape}

-- the row that answered the enquiry; 0 where none did
abbrev pub outcome_row : Outcome → ℕ
outcome_row Nothing = 0
outcome_row Malformed = 0
outcome_row (Broadcast s) = 0
outcome_row NoAnswer = 0
outcome_row (Nak r) = r
outcome_row (Delivered r s) = r
outcome_row (Unacknowledged r s stored) = r

-- an answer, and the network after it
pub record Turn (A : Type 0) : Type 0 where
  pub answer : A
  pub after : List ℕ

-- a network that SHAPE does not refuse, and one of its rows
pub record HasRow (net : List ℕ) (h : ℕ) : Type 0 where
  pub fits : shape net ≡ true
  pub within : h < rows net

-- ---- what a step does to the rows
unfoldable pub on_row : List ℕ → ℕ → (Regs → Regs) → List ℕ
on_row net k f = set_row net k (on_regs f (row_at net k))

-- what reaches every row: the recovery; a message that rows other than the one named hear, an invitation or not; an invitation to a number
-- that the row named has answered
abbrev pub happens : Event → ℕ → Regs → Regs
happens Recovery k g = recovered g
happens (Message h token) k g = pick (eqb k h) g (heard g token)
happens (Taken i t) k g = answered g i (eqb k t)

unfoldable pub happened : List ℕ → Event → List ℕ
happened net e = each_row (λ k r. on_regs (happens e k) r) net (rows net)

-- "0 none, 1 packet damaged, 2 final ACK lost, 3 invitation destroyed"
abbrev pub damaged : ℕ → Bool
damaged fault = eqb fault 1

abbrev pub ack_lost : ℕ → Bool
ack_lost fault = eqb fault 2

-- ---- "Storing": at each row that takes the packet, has its receiver enabled, and can store one of that shape
abbrev pub stored_row : List ℕ → Packet → List ℕ
stored_row r k = on_regs received (stored r (page_at r (receive_page (regs_of r))) k)

-- row `to` takes it; and, of a broadcast, "every other awake row, on line or not, with RI = 0 and broadcasts wanted"
abbrev pub takes : ℕ → ℕ → Bool → ℕ → Regs → Bool
takes h to broadcast j g = eqb j to || broadcast && not (eqb j h) && takes_broadcasts g

abbrev pub carried_row : ℕ → ℕ → Bool → Packet → ℕ → List ℕ → List ℕ
carried_row h to broadcast k j r =
    pick (takes h to broadcast j (regs_of r) && receiving (regs_of r) && storable (regs_of r) k.shape) (stored_row r k) r

unfoldable pub carried : List ℕ → ℕ → ℕ → Bool → Packet → List ℕ
carried net h to broadcast k = each_row (carried_row h to broadcast k) net (rows net)

-- "When a packet goes, a broadcast too, own ID is first written at byte 0 of the transmit page"
abbrev pub stamped_net : List ℕ → ℕ → ℕ → List ℕ
stamped_net net h p = set_row net h (stamped (row_at net h) (page_at (row_at net h) p))

-- a packet goes: it is heard, and stored unless "fault 1"
unfoldable pub went_out : List ℕ → ℕ → ℕ → ℕ → ℕ → Bool → List ℕ
went_out net h p fault to broadcast =
    pick (damaged fault) (happened (stamped_net net h p) (Message h false))
    (carried (happened (stamped_net net h p) (Message h false)) h to broadcast (packet_at (row_at (stamped_net net h p) h) p))

-- ---- TAKEN, the holder's packet
-- "DID 0, Broadcast: TA = 1, every other awake row, on line or not, with RI = 0 and broadcasts wanted stores it"
unfoldable pub broadcast_turn : List ℕ → ℕ → ℕ → ℕ → Turn Outcome
broadcast_turn net h p fault = record { answer = Broadcast (page_shape (row_at net h) p); after = on_row (went_out net h p fault (rows net) true) h (λ g. sent g false) }

-- "Stored and heard: Delivered, TA = 1 and TMA = 1. Not stored, or fault 2: Unacknowledged, TA = 1, TMA = 0"; C-16: row t answered the enquiry
abbrev pub arrives : List ℕ → ℕ → ℕ → ℕ → ℕ → Bool
arrives net h p fault t = not (damaged fault) && storable (regs_at net t) (page_shape (row_at net h) p)

abbrev pub acknowledged : List ℕ → ℕ → ℕ → ℕ → ℕ → Bool
acknowledged net h p fault t = arrives net h p fault t && not (ack_lost fault)

unfoldable pub packet_turn : List ℕ → ℕ → ℕ → ℕ → ℕ → Turn Outcome
packet_turn net h p fault t = record {
  answer = pick (acknowledged net h p fault t) (Delivered t (page_shape (row_at net h) p)) (Unacknowledged t (page_shape (row_at net h) p) (arrives net h p fault t));
  after = on_row (went_out net h p fault t false) h (λ g. sent (heard g false) (acknowledged net h p fault t));
}

-- an enquiry that no packet follows: the other rows hear it, and a NAK answered it or nobody did
unfoldable pub asked : List ℕ → ℕ → Bool → List ℕ
asked net h nak = on_row (happened net (Message h false)) h (λ g. enquired g nak)

-- "Otherwise an enquiry: no other on-line row with that ID, NoAnswer, TA = 1; its RI = 1, NAK, TA stays 0; else the packet goes"
unfoldable pub enquiry_turn : List ℕ → ℕ → ℕ → ℕ → ℕ → Turn Outcome
enquiry_turn net h p fault t =
    pick (ltb t (rows net))
    (pick (receiving (regs_at net t)) (packet_turn net h p fault t) (record { answer = Nak t; after = asked net h true }))
    (record { answer = NoAnswer; after = asked net h false })

-- the packet of page p: "Malformed: TA = 1. DID 0, Broadcast .. Otherwise an enquiry"
unfoldable pub try_turn : List ℕ → ℕ → ℕ → ℕ → Turn Outcome
try_turn net h p fault =
    pick (malformed (page_shape (row_at net h) p)) (record { answer = Malformed; after = on_row net h (λ g. sent g false) })
    (pick (eqb (destination (row_at net h) p) 0) (broadcast_turn net h p fault)
    (enquiry_turn net h p fault (node_of net (destination (row_at net h) p) h (rows net))))

-- "cancels asked in the holder's row take effect first .. If TA is then 0 the holder tries its packet"; "Nothing (TA already 1)"
unfoldable pub taken_turn : List ℕ → ℕ → ℕ → Turn Outcome
taken_turn net h fault =
    pick (transmitting (regs_at (on_row net h cancelled) h)) (try_turn (on_row net h cancelled) h (transmit_page (regs_at (on_row net h cancelled) h)) fault)
    (record { answer = Nothing; after = on_row net h cancelled })
