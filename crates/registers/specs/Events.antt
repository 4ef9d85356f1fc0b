-- Document 01, "One line step": what the line does to one card's registers, and what it asks of them.
-- Assumes nothing.
use Rattle.std.specs.Prelude.{Bool, true, false, not, ◌&&◌, ℕ, ◌+◌, ◌%◌, eqb}
use Rattle.bits.specs.declared.way.Way.{Way}
use Rattle.bits.specs.declared.way.Way.TheVariants.{Transmit, Receive}
use Rattle.registers.specs.declared.regs.Regs.{Regs}
use Rattle.bits.specs.Words.{pick, clear, has, raise, raise_if}
use Rattle.bits.specs.Flags.{RI, RECON, TA, MYRECON, DUPID, RCVACT, TOKEN, TENTID, CANCEL, BROADCASTS}
use Rattle.registers.specs.Fields.{with_status, with_diagnostic, with_nid}
use Rattle.queues.specs.Queues as queues
use Rattle.registers.specs.Sides.{chaining, side_of, with_side}
use Rattle.registers.specs.Naks.{nak_counted, naks_dropped}
use Rattle.registers.specs.Fit.{awake, on_line}

-- "A row that comes on line bursts: its MYRECON is set .. So does a timer expiry"
unfoldable pub burst : Regs → Regs
burst g = with_diagnostic (raise MYRECON g.diagnostic) g

-- "RECON is set in every awake row, each on-line row's NID becomes its own ID"
unfoldable pub recovered : Regs → Regs
recovered g = with_status (raise_if (awake g) RECON g.status) (with_nid (pick (on_line g) g.id g.nid) g)

-- an invitation: "Other awake rows get RCVACT and TOKEN"; one that fault 3 destroys: "RCVACT only"; "An enquiry or packet sets RCVACT in the other awake
-- rows, and in the holder if ACK or NAK answered"
unfoldable pub heard : Regs → Bool → Regs
heard g token = with_diagnostic (raise_if (awake g && token) TOKEN (raise_if (awake g) RCVACT g.diagnostic)) g

-- "awake rows with that node ID, the taker too (house), get DUPID, and awake rows other than the taker whose tentative ID is that number get TENTID"
unfoldable pub answered : Regs → ℕ → Bool → Regs
answered g n taker =
    with_diagnostic
    (raise_if (awake g && not taker && eqb g.tentative n) TENTID (raise_if (awake g && eqb g.id n) DUPID g.diagnostic)) g

-- "NID rises by one, 255 to 0"
unfoldable pub risen_nid : Regs → Regs
risen_nid g = with_nid ((g.nid + 1) % 256) g

-- a receive ends: "RI = 1, byte 14 zero"; C-11: or the second moves up, and TRI is set
unfoldable pub received : Regs → Regs
received g = with_side Receive (queues.ended Receive (chaining g) false (side_of Receive g)) g

-- "cancels asked in the holder's row take effect first (transmit: TA = 1; receive: RI = 1, byte 14 zero)"; "wherever TA becomes 1, byte 13
-- becomes zero"; C-16: a cancel of the oldest ends that transmit, and its NAKs are dropped
abbrev pub transmit_cancelled : Regs → Regs
transmit_cancelled g = naks_dropped (has CANCEL g.transmit.oldest) (with_side Transmit (queues.cancelled Transmit (side_of Transmit g)) g)

abbrev pub receive_cancelled : Regs → Regs
receive_cancelled g = with_side Receive (queues.cancelled Receive (side_of Receive g)) g

unfoldable pub cancelled : Regs → Regs
cancelled g = receive_cancelled (transmit_cancelled g)

-- a transmit ends: "TA = 1 and TMA = 1", or "TA = 1, TMA = 0"; byte 13 zero; C-11: or the second moves up, and TTA is set. Where 01 says "TA = 1" alone
-- (Malformed, Broadcast, NoAnswer) TMA is 0 already, or tells of another end: TA was 0; C-16: the count "goes to 0 when that transmit ends", with EXCNAK
unfoldable pub sent : Regs → Bool → Regs
sent g acknowledged = naks_dropped true (with_side Transmit (queues.ended Transmit (chaining g) acknowledged (side_of Transmit g)) g)

-- an enquiry that no packet followed: "NAK, TA stays 0", which C-16 counts, and "RCVACT .. in the holder if ACK or NAK answered"; or "NoAnswer, TA = 1"
unfoldable pub enquired : Regs → Bool → Regs
enquired g nak = pick nak (heard (nak_counted g) false) (sent g false)

-- a transmit waits: TA is 0; the receiver is enabled: RI is 0
unfoldable pub transmitting : Regs → Bool
transmitting g = clear TA g.status

unfoldable pub receiving : Regs → Bool
receiving g = clear RI g.status

-- of either side
abbrev pub waits : Way → Regs → Bool
waits Transmit g = transmitting g
waits Receive g = receiving g

-- "awake row .. with RI = 0 and broadcasts wanted"
unfoldable pub takes_broadcasts : Regs → Bool
takes_broadcasts g = awake g && receiving g && has BROADCASTS g.receive.oldest

-- "bits 1-0 page", of the oldest
unfoldable pub transmit_page : Regs → ℕ
transmit_page g = g.transmit.oldest % 4

unfoldable pub receive_page : Regs → ℕ
receive_page g = g.receive.oldest % 4

-- of either side
abbrev pub page : Way → Regs → ℕ
page Transmit g = transmit_page g
page Receive g = receive_page g
