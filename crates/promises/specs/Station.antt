-- The right station: the packet for an ID lies in the card of the row that carries it, and of the station that the order gave it to, and in no other.
-- Assumes nothing.
use Rattle.std.specs.Prelude.{◌≡◌, Bool, true, false, not, ◌&&◌, List, ℕ, ◌≤◌, ◌<◌, eqb, get_or}
use Rattle.registers.specs.Events.{received, receiving, takes_broadcasts, receive_page}
use Rattle.registers.specs.Sides.{chaining}
use Rattle.card.specs.declared.packets.Shape.{Shape}
use Rattle.card.specs.Row.{register_bytes}
use Rattle.card.specs.Packets.{page_at, storable}
use Rattle.card.specs.Moves.{Holds}
use Rattle.table.specs.Folds.{seek}
use Rattle.table.specs.Rows.{row_at}
use Rattle.table.specs.Network.{Bytes, rows, holder, regs_at, is_node, shape, SameNodes}
use Rattle.table.specs.Calls.{net_data, net_data_number}
use Rattle.line.specs.declared.traffic.Outcome.TheVariants.{Broadcast, Delivered}
use Rattle.line.specs.Answers.{Held}
use Rattle.line.specs.Traffic.{damaged}
use Rattle.line.specs.Step.{step}
use Rattle.line.specs.Outcomes.{sender, sent_page, sent_shape, sent_to, stores}
use Rattle.orders.specs.Form.{records, id_at, name_at}
use Rattle.desk.specs.Load.{load_number, net_after_load}

-- ---- row j of a network, before a step and after it
-- it stored the packet: RI was 0; RI and the queue are as a receive that ends leaves them, with CCHEN 0 "RI = 1, byte 14 zero"; its receive page holds what the
-- holder sent, and the page reader gives it byte for byte
pub record Stored (net new : List ℕ) (j : ℕ) : Type 0 where
  pub waited : receiving (regs_at net j) ≡ true
  pub filled : receiving (regs_at new j) ≡ receiving (received (regs_at net j))
  pub ended : (regs_at new j).receive ≡ (received (regs_at net j)).receive
  pub plain : chaining (regs_at net j) ≡ false → (receiving (regs_at new j) ≡ false) × ((regs_at new j).receive.oldest ≡ 0)
  pub holds : Holds (sender net) (sent_page net) (row_at new j) (receive_page (regs_at net j))
  pub reads : net_data new j (receive_page (regs_at net j)) ≡ net_data net (holder net) (sent_page net)
  pub number : net_data_number new j (receive_page (regs_at net j)) ≡ 0

-- its RAM is as it was, but for byte 0 of the page that the holder sends
abbrev pub RamKept : List ℕ → List ℕ → ℕ → Type 0
RamKept net new j = (i : ℕ) → register_bytes ≤ i → (j ≡ holder net → i ≡ page_at (row_at net j) (sent_page net) → ⊥) → get_or (row_at new j) i 0 ≡ get_or (row_at net j) i 0

-- ---- any step: a row stores the packet, or keeps its RAM
abbrev pub StoredOrKept : Type 0
StoredOrKept =
    (net : List ℕ) → Bytes net → shape net ≡ true → (fault j : ℕ) → j < rows net
    → (stores net fault j ≡ true → Stored net (step net fault).after j) × (stores net fault j ≡ false → RamKept net (step net fault).after j)

-- ---- Held(Delivered): the row that it names carries the DID and stored it, and no other row did
pub record RightStation (net new : List ℕ) (to : ℕ) : Type 0 where
  pub there : to < rows net
  pub carries : is_node net (sent_to net) to ≡ true
  pub alone : (j : ℕ) → j < rows net → is_node net (sent_to net) j ≡ true → j ≡ to
  pub away : to ≡ holder net → ⊥
  pub stored : Stored net new to
  pub others : (j : ℕ) → j < rows net → (j ≡ to → ⊥) → RamKept net new j

abbrev pub Deliveries : Type 0
Deliveries =
    (net : List ℕ) → Bytes net → shape net ≡ true → (fault : ℕ) → (r : ℕ) (s : Shape) → (step net fault).answer ≡ Held (Delivered r s) → RightStation net (step net fault).after r

-- ---- Held(Broadcast): "every other awake row, on line or not, with RI = 0 and broadcasts wanted stores it"; "a long packet at a row with long packets 0, or
-- fault 1, stores nothing there"
abbrev pub takes_it : List ℕ → ℕ → ℕ → Bool
takes_it net fault j = not (damaged fault) && (not (eqb j (holder net)) && takes_broadcasts (regs_at net j) && storable (regs_at net j) (sent_shape net))

abbrev pub Broadcasts : Type 0
Broadcasts =
    (net : List ℕ) → Bytes net → shape net ≡ true → (fault : ℕ) → (s : Shape) → (step net fault).answer ≡ Held (Broadcast s) → (j : ℕ) → j < rows net
    → (takes_it net fault j ≡ true → Stored net (step net fault).after j) × (takes_it net fault j ≡ false → RamKept net (step net fault).after j)

-- ---- from the order: the name of the record that has an ID
abbrev pub station_of : List ℕ → ℕ → List ℕ
station_of order id = name_at order (seek (λ k. eqb (id_at order k) id) (records order))

-- row k is the record with that ID, no other record has it, and the station's name is that record's
pub record OfOrder (order : List ℕ) (id k : ℕ) : Type 0 where
  pub there : k < records order
  pub has : id_at order k ≡ id
  pub alone : (j : ℕ) → j < records order → id_at order j ≡ id → j ≡ k
  pub named : station_of order id ≡ name_at order k

-- of a network that an order was loaded into, with the same nodes on line since
abbrev pub FromTheOrder : Type 0
FromTheOrder =
    (order lent net : List ℕ) → load_number order lent ≡ 0 → SameNodes (net_after_load order lent) net → Bytes net → shape net ≡ true → (fault : ℕ)
    → (r : ℕ) (s : Shape) → (step net fault).answer ≡ Held (Delivered r s) → OfOrder order (sent_to net) r
