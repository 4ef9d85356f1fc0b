-- Document 01, "One line step": which rows store the packet, what an outcome says of the holder, and which messages a fault can meet.
-- Assumes nothing.
use Rattle.std.specs.Prelude.{◌≡◌, Bool, true, false, not, ◌&&◌, ◌||◌, List, [], ◌∷◌, ◌++◌, ℕ, ◌+◌, ◌<◌, eqb}
use Rattle.bits.specs.declared.way.Way.TheVariants.{Transmit}
use Rattle.registers.specs.declared.regs.Regs.{Regs}
use Rattle.card.specs.declared.packets.Shape.{Shape}
use Rattle.line.specs.declared.traffic.Outcome.{Outcome}
use Rattle.line.specs.declared.traffic.Outcome.TheVariants.{Nothing, Malformed, Broadcast, NoAnswer, Nak, Delivered, Unacknowledged}
use Rattle.line.specs.Answers.{Answer}
use Rattle.line.specs.Answers.{Refused, Quiet, Recovered, Passed, Unanswered, TokenLost, Held}
use Rattle.bits.specs.Words.{pick, has, among}
use Rattle.registers.specs.Layout.{at_status, at_diagnostic, at_nid, at_receive, at_second_receive, transmit_bytes, receive_bytes, nak_bytes}
use Rattle.registers.specs.Sides.{chaining, tta}
use Rattle.bits.specs.Flags.{TMA, TA, CANCEL}
use Rattle.registers.specs.Naks.{naks, up_to_limit}
use Rattle.queues.specs.Queues.{two, moved_up}
use Rattle.card.specs.Packets.{page_at, malformed, page_shape, destination, storable}
use Rattle.card.specs.Moves.{in_packet}
use Rattle.registers.specs.Events.{heard, cancelled, sent, enquired, transmitting, receiving, transmit_page, receive_page}
use Rattle.table.specs.Rows.{row_at}
use Rattle.table.specs.Network.{rows, phase, holder, LOST, PASS, TAKEN, regs_at, is_node, node_of}
use Rattle.line.specs.Traffic.{damaged, takes}
use Rattle.line.specs.Step.{step_number}

-- ---- who stores the packet of a step
-- the holder's row, the page of the packet that it tries after its cancels, and the packet's shape and DID
abbrev pub sender : List ℕ → List ℕ
sender net = row_at net (holder net)

abbrev pub sent_page : List ℕ → ℕ
sent_page net = transmit_page (cancelled (regs_at net (holder net)))

abbrev pub sent_shape : List ℕ → Shape
sent_shape net = page_shape (sender net) (sent_page net)

abbrev pub sent_to : List ℕ → ℕ
sent_to net = destination (sender net) (sent_page net)

-- the row that the enquiry finds; no row, where the packet is broadcast or nobody has the ID
abbrev pub addressee : List ℕ → ℕ
addressee net = pick (eqb (sent_to net) 0) (rows net) (node_of net (sent_to net) (holder net) (rows net))

-- row j stores it: the step is not refused, the holder tries a packet after its cancels, and row j takes it, with RI 0; "a long packet at a row with long
-- packets 0, or fault 1, stores nothing there"
unfoldable pub stores : List ℕ → ℕ → ℕ → Bool
stores net fault j =
    eqb (step_number net fault) 0 && (eqb (phase net) TAKEN && (transmitting (cancelled (regs_at net (holder net))) && (not (malformed (sent_shape net))
    && (not (damaged fault) && (takes (holder net) (addressee net) (eqb (sent_to net) 0) j (regs_at net j)
    && (receiving (regs_at net j) && storable (regs_at net j) (sent_shape net)))))))

-- ---- "no other byte moves": the bytes of row j that a step may move, where the row stores the packet or does not
-- LOST: "RECON is set in every awake row, each on-line row's NID becomes its own ID". PASS: RCVACT, TOKEN, DUPID and TENTID in the rows; "NID rises by one". TAKEN:
-- in the holder its cancels, RCVACT, TA, TMA and byte 13, and "own ID .. at byte 0 of the transmit page"; in the others RCVACT, and where the packet is stored
-- "RI = 1, byte 14 zero", and its places in the receive page; C-11: of a chaining row also the second's bytes and the ends that are not cleared; C-16: in the
-- holder EXCNAK and the count
abbrev pub holder_bytes : Bool → List ℕ
holder_bytes chaining = at_status ∷ at_receive ∷ pick chaining (at_second_receive ∷ []) [] ++ nak_bytes ++ transmit_bytes chaining

abbrev pub storing_bytes : Bool → List ℕ
storing_bytes chaining = at_status ∷ receive_bytes chaining

abbrev pub row_moves : List ℕ → Bool → ℕ → ℕ → Bool
row_moves net storing j i =
    pick (eqb (phase net) LOST) (among (at_status ∷ at_nid ∷ []) i)
    (pick (eqb (phase net) PASS) (eqb i at_diagnostic || eqb j (holder net) && eqb i at_nid)
    (pick (eqb j (holder net)) (among (holder_bytes (chaining (regs_at net j))) i || eqb i (page_at (row_at net j) (sent_page net)))
    (eqb i at_diagnostic || storing && (among (storing_bytes (chaining (regs_at net j))) i || in_packet (page_at (row_at net j) (receive_page (regs_at net j))) (sent_shape net) i))))

-- ---- C-16: whom an outcome names, and what it says of the packet
-- "ACK and NAK shall name the answering row": on line, with the packet's DID, and not the sender
pub record Answerer (net : List ℕ) (r : ℕ) : Type 0 where
  pub there : r < rows net
  pub carries : is_node net (sent_to net) r ≡ true
  pub other : r ≡ holder net → ⊥

-- its RI was 1; or the packet went, of that shape, and was stored there or was not
abbrev pub Named : List ℕ → ℕ → Outcome → Type 0
Named net fault Nothing = Unit {0}
Named net fault Malformed = Unit {0}
Named net fault (Broadcast s) = s ≡ sent_shape net
Named net fault NoAnswer = Unit {0}
Named net fault (Nak r) = Answerer net r × (receiving (regs_at net r) ≡ false)
Named net fault (Delivered r s) = Answerer net r × ((s ≡ sent_shape net) × (stores net fault r ≡ true))
Named net fault (Unacknowledged r s stored) = Answerer net r × ((s ≡ sent_shape net) × (stores net fault r ≡ stored))

-- ---- what an outcome says of the holder's TA, TMA and TTA after the step
-- "Nothing (TA already 1). Malformed: TA = 1. DID 0, Broadcast: TA = 1 .. NoAnswer, TA = 1; .. NAK, TA stays 0; .. Delivered, TA = 1 and TMA = 1.
-- .. Unacknowledged, TA = 1, TMA = 0"
abbrev pub outcome_ta : Outcome → Bool
outcome_ta Nothing = true
outcome_ta Malformed = true
outcome_ta (Broadcast s) = true
outcome_ta NoAnswer = true
outcome_ta (Nak r) = false
outcome_ta (Delivered r s) = true
outcome_ta (Unacknowledged r s stored) = true

-- where no packet was tried TMA is as it was; a packet that was not acknowledged, or did not go, leaves it 0
abbrev pub outcome_tma : Outcome → Bool → Bool
outcome_tma Nothing was = was
outcome_tma Malformed was = false
outcome_tma (Broadcast s) was = false
outcome_tma NoAnswer was = false
outcome_tma (Nak r) was = false
outcome_tma (Delivered r s) was = true
outcome_tma (Unacknowledged r s stored) was = false

-- C-11, "TTA .. set on completion": whether a transmit ended
abbrev pub completes : Outcome → Bool
completes Nothing = false
completes Malformed = true
completes (Broadcast s) = true
completes NoAnswer = true
completes (Nak r) = false
completes (Delivered r s) = true
completes (Unacknowledged r s stored) = true

-- what happened to the holder's registers: its cancels took effect; then the transmit ended, acknowledged or not, or it waits on; an ACK or NAK was heard
abbrev pub holder_after : Outcome → Regs → Regs
holder_after Nothing g = cancelled g
holder_after Malformed g = sent (cancelled g) false
holder_after (Broadcast s) g = sent (cancelled g) false
holder_after NoAnswer g = enquired (cancelled g) false
holder_after (Nak r) g = enquired (cancelled g) true
holder_after (Delivered r s) g = sent (heard (cancelled g) false) true
holder_after (Unacknowledged r s stored) g = sent (heard (cancelled g) false) false

-- C-16: the NAKs to the transmit that waits, m of them before: one more, or none where it ended
abbrev pub outcome_naks : Outcome → ℕ → ℕ
outcome_naks Nothing m = m
outcome_naks Malformed m = 0
outcome_naks (Broadcast s) m = 0
outcome_naks NoAnswer m = 0
outcome_naks (Nak r) m = m + 1
outcome_naks (Delivered r s) m = 0
outcome_naks (Unacknowledged r s stored) m = 0

-- the holder's registers before and after the step: what happened to them and no more, and so TA, TMA, TTA, byte 13 and the count of NAKs. TA is 1 where no second
-- waits after the cancels, else the second has moved up; "the status of the first kept": TMA stays with TTA
pub record HolderLeft (before after : Regs) (o : Outcome) : Type 0 where
  pub registers : after ≡ holder_after o before
  pub ta : has TA after.status ≡ (outcome_ta o && not (two Transmit (cancelled before).transmit))
  pub tma : has TMA after.status ≡ pick (tta before) (has TMA before.status) (outcome_tma o (has TMA before.status))
  pub page : outcome_ta o ≡ true → after.transmit.oldest ≡ moved_up Transmit (cancelled before).transmit
  pub told : tta after ≡ (tta before || chaining before && completes o)
  pub counted : naks after ≡ up_to_limit (outcome_naks o (naks (cancelled before)))

-- in a row with CCHEN 0: "wherever TA becomes 1, byte 13 becomes zero"
pub record PlainLeft (before after : Regs) (o : Outcome) : Type 0 where
  pub ta : has TA after.status ≡ outcome_ta o
  pub tma : has TMA after.status ≡ outcome_tma o (has TMA before.status)
  pub page : outcome_ta o ≡ true → after.transmit.oldest ≡ 0

-- ---- C-16: the NAKs to the transmit that waits in row k, m of them before a step that answers so: a cancel that is asked of it ends it first
abbrev pub step_naks : List ℕ → ℕ → Answer → ℕ → ℕ
step_naks net k (Refused n) m = m
step_naks net k Quiet m = m
step_naks net k (Recovered r) m = m
step_naks net k (Passed r) m = m
step_naks net k (Unanswered i) m = m
step_naks net k TokenLost m = m
step_naks net k (Held o) m = pick (eqb k (holder net)) (outcome_naks o (pick (has CANCEL (regs_at net k).transmit.oldest) 0 m)) m

-- ---- "A fault that meets no message of its kind does nothing": the messages of a fault-free step, by what it answers
-- 1, a packet
abbrev pub packet_goes : Outcome → Bool
packet_goes Nothing = false
packet_goes Malformed = false
packet_goes (Broadcast s) = true
packet_goes NoAnswer = false
packet_goes (Nak r) = false
packet_goes (Delivered r s) = true
packet_goes (Unacknowledged r s stored) = true

-- 2, a final ACK
abbrev pub ack_comes : Outcome → Bool
ack_comes Nothing = false
ack_comes Malformed = false
ack_comes (Broadcast s) = false
ack_comes NoAnswer = false
ack_comes (Nak r) = false
ack_comes (Delivered r s) = true
ack_comes (Unacknowledged r s stored) = false

-- 3, an invitation
abbrev pub meets : ℕ → Answer → Bool
meets fault (Refused n) = false
meets fault Quiet = false
meets fault (Recovered r) = false
meets fault (Passed r) = eqb fault 3
meets fault (Unanswered i) = eqb fault 3
meets fault TokenLost = false
meets fault (Held o) = eqb fault 1 && packet_goes o || eqb fault 2 && ack_comes o
