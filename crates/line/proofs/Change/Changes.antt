-- What a line step is made of: changes of the rows, each given by what it does to any one row, and a turn of phase and holder.
-- Assumes nothing.
use mathlib.Core.Path.{◌≡◌}
use mathlib.Core.Bool.{Bool, true, false, ◌&&◌, ◌||◌}
use mathlib.Core.List.{List, [], ◌∷◌}
use Prim.Native.Nat.{ℕ, ◌≤◌, ◌<◌}
use lib.Dec.{eqb}
use lib.ListN.{length}
use Rattle.registers.specs.declared.regs.Regs.{Regs}
use Rattle.card.specs.declared.packets.Packet.{Packet}
use Rattle.line.specs.declared.passes.Event.{Event}
use Rattle.line.specs.declared.passes.Event.TheVariants.{Recovery, Message, Taken}
use Rattle.bits.specs.Words.{pick}
use Rattle.card.specs.Packets.{data_at, stamped, page_at}
use Rattle.registers.specs.Events.{heard, risen_nid, cancelled, sent, enquired, transmitting, receiving, transmit_page}
use Rattle.card.specs.Packets.{storable}
use Rattle.card.proofs.Rows.Rams.{Small}
use Rattle.card.proofs.Pages.Sent.{SentFrom}
use Rattle.table.specs.Rows.{row_at}
use Rattle.table.specs.Network.{phase, holder, LOST, PASS, TAKEN, turned, on_regs, regs_at}
use Rattle.line.specs.Traffic.{on_row, happens, happened, takes, carried_row, carried, stamped_net}
use Rattle.table.proofs.Shaped.Shapes.{OnLineRow}

-- ---- what a step does to the holder's own registers: an invitation was not answered; the token came; an enquiry was answered by a NAK or by nobody; the transmit
-- ended, with an answer heard or not, acknowledged or not
pub data Own : Type 0 where
  Rises : Own
  Cancels : Own
  Enquires : Bool → Own
  Ends : Bool → Bool → Own

abbrev pub does : Own → Regs → Regs
does Rises g = risen_nid g
does Cancels g = cancelled g
does (Enquires nak) g = enquired g nak
does (Ends true a) g = sent (heard g false) a
does (Ends false a) g = sent g a

-- ---- a change of the rows: an event reaches every row; the holder's own registers; byte 0 of its page; the packet is stored where it is taken
pub data Change : Type 0 where
  Reaches : Event → Change
  Does : Own → Change
  Stamps : ℕ → Change
  Carries : ℕ → Bool → Packet → Change

-- what it does to a network whose holder is row h, and to row j of it
abbrev pub done : ℕ → Change → List ℕ → List ℕ
done h (Reaches e) net = happened net e
done h (Does o) net = on_row net h (does o)
done h (Stamps p) net = stamped_net net h p
done h (Carries to broadcast k) net = carried net h to broadcast k

abbrev pub row_done : ℕ → Change → ℕ → List ℕ → List ℕ
row_done h (Reaches e) j r = on_regs (happens e j) r
row_done h (Does o) j r = pick (eqb j h) (on_regs (does o) r) r
row_done h (Stamps p) j r = pick (eqb j h) (stamped r (page_at r p)) r
row_done h (Carries to broadcast k) j r = carried_row h to broadcast k j r

-- a packet's 512 bytes, and a COUNT that is a byte
pub record WholePacket (k : Packet) : Type 0 where
  pub full : 512 ≤ length k.bytes
  pub count : data_at k.shape < 256
  pub small : Small k.bytes

abbrev pub Sane : Change → Type 0
Sane (Reaches e) = Unit {0}
Sane (Does o) = Unit {0}
Sane (Stamps p) = Unit {0}
Sane (Carries to broadcast k) = WholePacket k

-- what it asks of the holder's registers: a NAK answers a transmit that waits
abbrev pub Ready : Regs → Change → Type 0
Ready g (Reaches e) = Unit {0}
Ready g (Does Rises) = Unit {0}
Ready g (Does Cancels) = Unit {0}
Ready g (Does (Enquires nak)) = transmitting g ≡ true
Ready g (Does (Ends b a)) = Unit {0}
Ready g (Stamps p) = Unit {0}
Ready g (Carries to broadcast k) = Unit {0}

-- a recovery and a rise alone change NIDs
abbrev pub keeps_nid : Change → Bool
keeps_nid (Reaches Recovery) = false
keeps_nid (Reaches (Message k token)) = true
keeps_nid (Reaches (Taken i t)) = true
keeps_nid (Does Rises) = false
keeps_nid (Does Cancels) = true
keeps_nid (Does (Enquires nak)) = true
keeps_nid (Does (Ends b a)) = true
keeps_nid (Stamps p) = true
keeps_nid (Carries to broadcast k) = true

-- ---- changes, the latest first: what they do to the holder's own registers; whether they keep the NIDs; and whether row j, whose registers were g at the
-- start, stores the packet
abbrev pub all_done : List Change → Regs → Regs
all_done [] g = g
all_done (Reaches e ∷ l) g = all_done l g
all_done (Does o ∷ l) g = does o (all_done l g)
all_done (Stamps p ∷ l) g = all_done l g
all_done (Carries to broadcast k ∷ l) g = all_done l g

abbrev pub keep_nids : List Change → Bool
keep_nids [] = true
keep_nids (c ∷ l) = keeps_nid c && keep_nids l

abbrev pub stores_it : ℕ → Change → ℕ → Regs → Bool
stores_it h (Reaches e) j g = false
stores_it h (Does o) j g = false
stores_it h (Stamps p) j g = false
stores_it h (Carries to broadcast k) j g = takes h to broadcast j g && receiving g && storable g k.shape

abbrev pub stored_by : ℕ → List Change → ℕ → Regs → Bool
stored_by h [] j g = false
stored_by h (c ∷ l) j g = stores_it h c j g || stored_by h l j g

-- ---- when a step from `start`, after the changes l, makes a change
-- the holder tries a packet: after the cancels its transmit waits still
pub record Tries (start : List ℕ) : Type 0 where
  pub taken : phase start ≡ TAKEN
  pub waits : transmitting (cancelled (regs_at start (holder start))) ≡ true

-- a packet goes, none has gone before, to no row or to one that is not the holder; it is that of the holder's page, with its ID at byte 0
pub record Goes (start : List ℕ) (l : List Change) (to : ℕ) (k : Packet) : Type 0 where
  pub tries : Tries start
  pub once : (j : ℕ) (g : Regs) → stored_by (holder start) l j g ≡ false
  pub whole : WholePacket k
  pub packet : SentFrom (row_at start (holder start)) (transmit_page (cancelled (regs_at start (holder start)))) k
  pub other : to ≡ holder start → ⊥

-- a message is the holder's
abbrev pub Comes : List ℕ → Event → Type 0
Comes start Recovery = phase start ≡ LOST
Comes start (Message k token) = (k ≡ holder start) × (phase start ≡ LOST → ⊥)
Comes start (Taken i t) = phase start ≡ PASS

abbrev pub Allowed : List ℕ → List Change → Change → Type 0
Allowed start l (Reaches e) = Comes start e
Allowed start l (Does Rises) = phase start ≡ PASS
Allowed start l (Does Cancels) = phase start ≡ TAKEN
Allowed start l (Does (Enquires nak)) = Tries start
Allowed start l (Does (Ends b a)) = Tries start
Allowed start l (Stamps p) = Tries start × (p ≡ transmit_page (cancelled (regs_at start (holder start))))
Allowed start l (Carries to broadcast k) = Goes start l to k

pub sane : (start : List ℕ) (l : List Change) (c : Change) → Allowed start l c → Sane c
sane start l (Reaches e) a = tt
sane start l (Does o) a = tt
sane start l (Stamps p) a = tt
sane start l (Carries to broadcast k) a = a.whole

-- nobody holds in LOST, and a row on line outside it
pub record Turns (start : List ℕ) (p t : ℕ) : Type 0 where
  pub small : p < 3
  pub nobody : p ≡ LOST → t ≡ 0
  pub somebody : (p ≡ LOST → ⊥) → OnLineRow start t

-- ---- the network that changes of `start` lead to
pub data Path (start : List ℕ) : List Change → List ℕ → Type 0 where
  begin : Path start [] start
  more : {l : List Change} {net : List ℕ} → Path start l net → (c : Change) → Allowed start l c → Ready (regs_at net (holder start)) c
      → Path start (c ∷ l) (done (holder start) c net)
  turn : {l : List Change} {net : List ℕ} → Path start l net → (p t : ℕ) → Turns start p t → Path start l (turned net p t)
