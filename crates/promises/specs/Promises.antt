-- What holds of every public call.
-- Assumes nothing.
use Rattle.std.specs.Prelude.{◌≡◌, Bool, true, false, not, ◌&&◌, List, [], ◌∷◌, ◌++◌, ℕ, ◌+◌, ◌*◌, ◌≤◌, ◌<◌, eqb, ltb, length, get_or}
use Rattle.bits.specs.Words.{among}
use Rattle.registers.specs.Layout.{at_diagnostic, read_changes}
use Rattle.registers.specs.Sides.{chaining}
use Rattle.registers.specs.Naks.{naks}
use Rattle.registers.specs.Plain.{Plain}
use Rattle.registers.specs.Unrefused.{Unrefused}
use Rattle.told.specs.declared.refusals.Refusal as kinds
use Rattle.told.specs.Refusals.{number_of}
use Rattle.told.specs.Numbers.{ALONE, ROOM, numbers, Refusal, ◌when◌, told, rises, Smallest}
use Rattle.card.specs.Packets.{shape_of, data_bytes, CanBeSent, malformed}
use Rattle.card.specs.Moves.{OnlyAt}
use Rattle.line.specs.declared.traffic.Outcome.{Outcome}
use Rattle.line.specs.Answers.{Held}
use Rattle.table.specs.Rows.{header_bytes, row_at}
use Rattle.table.specs.Network.{rows, phase, holder, Bytes, TAKEN, regs_at, shape, SameFrame, OnlyRow, LOST, on_line_at}
use Rattle.table.specs.Calls.{place_refusals, place_number, net_read_refusals, net_reading, net_after_read, net_write_refusals, net_write_number, net_write_moves, net_after_write, reset_moves, net_after_reset, timer_refusals, timer_number, net_after_timer, net_interrupt, net_data, net_data_refusals, net_data_number, fresh_refusals, fresh_number, net_after_fresh}
use Rattle.line.specs.Step.{step_refusals, step, answer_number, answer_value, highest}
use Rattle.line.specs.Outcomes.{stores, row_moves, Named, HolderLeft, PlainLeft, meets}
use Rattle.desk.specs.declared.laps.Taker.{Taker}
use Rattle.orders.specs.Form.{records, order_fits, id_at}
use Rattle.orders.specs.Check.{record_refusals, record_numbers, record_number, checked}
use Rattle.desk.specs.Load.{room_refusals, loading, load_number, net_after_load}
use Rattle.desk.specs.Lap.{nodes, after, answers, takers, lap_steps, lap_refusals, lap_number, lapped, net_after_lap, lap_takers, list_after_lap}
use Rattle.desk.specs.Host.{Call, table}
use Rattle.desk.specs.Demand.{steps, answers_of, Throughout, LapOf, FirstLapOf}
use Rattle.promises.specs.OfBits.{OfBits}
use Rattle.promises.specs.OfTold.{OfTold}
use Rattle.promises.specs.OfQueues.{OfQueues}
use Rattle.promises.specs.OfCommands.{OfCommands}
use Rattle.promises.specs.OfRegisters.{OfRegisters}
use Rattle.promises.specs.OfCard.{OfCard}
use Rattle.promises.specs.OfTable.{OfTable}
use Rattle.promises.specs.OfLine.{OfLine}
use Rattle.promises.specs.OfOrders.{OfOrders}
use Rattle.promises.specs.OfDesk.{OfDesk}
use Rattle.promises.specs.OfWords.{OfWords}

-- ---- "A refusal returns 0, or length 0, beside its number, and no lent byte or entry changes": the number is a refusal's. C-12: of loading, for the numbers that
-- name a record, "demand 1's zero becomes the record number"
abbrev pub Refused : ℕ → Type 0
Refused n = n ≡ 0 → ⊥

pub record RefusalsChangeNothing : Type 0 where
  pub read : (net : List ℕ) (k g : ℕ) → Refused (net_reading net k g).number → (net_after_read net k g ≡ net) × ((net_reading net k g).value ≡ 0)
  pub write : (net : List ℕ) (k g v : ℕ) → Refused (net_write_number net k g v) → net_after_write net k g v ≡ net
  pub reset : (net : List ℕ) (k : ℕ) → Refused (place_number net k) → net_after_reset net k ≡ net
  pub timer : (net : List ℕ) (k : ℕ) → Refused (timer_number net k) → net_after_timer net k ≡ net
  pub interrupt : (net : List ℕ) (k : ℕ) → Refused (net_interrupt net k).number → (net_interrupt net k).active ≡ false
  pub page_data : (net : List ℕ) (k p : ℕ) → Refused (net_data_number net k p) → net_data net k p ≡ []
  pub fresh : (net : List ℕ) (n : ℕ) → Refused (fresh_number net n) → net_after_fresh net n ≡ net
  pub step_of : (net : List ℕ) (fault : ℕ) → Refused (answer_number (step net fault).answer) → ((step net fault).after ≡ net) × (answer_value (step net fault).answer ≡ 0)
  pub load : (order net : List ℕ) → Refused (load_number order net)
      → (net_after_load order net ≡ net) × (among record_numbers (load_number order net) ≡ false → (loading order net).bad ≡ 0)
  pub walk : (net : List ℕ) (room : ℕ) → Refused (lap_number net room) → ((lapped net room).total ≡ 0) × ((net_after_lap net room ≡ net) × (lap_takers net room ≡ []))
  pub lap : (net : List ℕ) (list : List Taker) → Refused (lap_number net (length list)) → list_after_lap net list ≡ list

-- ---- "The smallest number wins": each call's refusals, and the number that it tells. C-12: of an order the smallest of the record that is named, and "all before
-- ROOM", whatever the network is
pub record SmallestWins : Type 0 where
  pub read : (net : List ℕ) (k g : ℕ) → Smallest (net_read_refusals net k g) (net_reading net k g).number
  pub write : (net : List ℕ) (k g v : ℕ) → Smallest (net_write_refusals net k g v) (net_write_number net k g v)
  pub reset : (net : List ℕ) (k : ℕ) → Smallest (place_refusals net k) (place_number net k)
  pub timer : (net : List ℕ) (k : ℕ) → Smallest (timer_refusals net k) (timer_number net k)
  pub interrupt : (net : List ℕ) (k : ℕ) → Smallest (place_refusals net k) (net_interrupt net k).number
  pub page_data : (net : List ℕ) (k p : ℕ) → Smallest (net_data_refusals net k p) (net_data_number net k p)
  pub fresh : (net : List ℕ) (n : ℕ) → Smallest (fresh_refusals net n) (fresh_number net n)
  pub step_of : (net : List ℕ) (fault : ℕ) → Smallest (step_refusals net fault) (answer_number (step net fault).answer)
  pub lap : (net : List ℕ) (room : ℕ) → Smallest (lap_refusals net room) (lapped net room).number
  pub of_record : (order : List ℕ) (k : ℕ) → Smallest (record_refusals order k) (record_number order k)
  pub load_order : (order net : List ℕ) → order_fits order ≡ false → loading order net ≡ checked order
  pub load_room : (order net : List ℕ) → order_fits order ≡ true → Smallest (room_refusals order net) (load_number order net)

-- ---- C-20, of number 11, document 01's "line step in PASS or TAKEN, holder not on line"
abbrev pub holder_off_line : List ℕ → Bool
holder_off_line net = not (eqb (phase net) LOST) && not (on_line_at net (holder net))

-- "a line step can never answer" it, "because SHAPE comes first": SHAPE refuses such a network, and a step that asked this test too, behind its others, would tell
-- no other number. "Its number is not given again": the numbers rise, so that each is given once, no refusal has 11, and no call tells it, whatever its bytes; of
-- those whose smallest number wins that is said in general
pub record NumberEleven : Type 0 where
  pub shape_first : (net : List ℕ) → holder_off_line net ≡ true → shape net ≡ false
  pub asked_too : (net : List ℕ) (fault : ℕ) → told (step_refusals net fault ++ (11 when holder_off_line net ∷ [])) ≡ answer_number (step net fault).answer
  pub step_of : (net : List ℕ) (fault : ℕ) → answer_number (step net fault).answer ≡ 11 → ⊥
  pub lap : (net : List ℕ) (room : ℕ) → (lapped net room).number ≡ 11 → ⊥
  pub load : (order net : List ℕ) → load_number order net ≡ 11 → ⊥
  pub any_call : (l : List Refusal) (n : ℕ) → Smallest l n → n ≡ 11 → ⊥
  pub once : rises numbers ≡ true
  pub no_refusal : (e : kinds.Refusal) → number_of e ≡ 11 → ⊥

-- ---- a call leaves a well-formed network well formed, and what the fresh call and loading make is so: no call can bring the bench where SHAPE refuses it
pub record StaysWellFormed : Type 0 where
  pub read : (net : List ℕ) → shape net ≡ true → (k g : ℕ) → shape (net_after_read net k g) ≡ true
  pub write : (net : List ℕ) → shape net ≡ true → (k g v : ℕ) → shape (net_after_write net k g v) ≡ true
  pub reset : (net : List ℕ) → shape net ≡ true → (k : ℕ) → shape (net_after_reset net k) ≡ true
  pub timer : (net : List ℕ) → shape net ≡ true → (k : ℕ) → shape (net_after_timer net k) ≡ true
  pub step_of : (net : List ℕ) → Bytes net → shape net ≡ true → (fault : ℕ) → shape (step net fault).after ≡ true
  pub lap : (net : List ℕ) → Bytes net → shape net ≡ true → (room : ℕ) → shape (net_after_lap net room) ≡ true
  pub fresh : (net : List ℕ) (n : ℕ) → fresh_number net n ≡ 0 → shape (net_after_fresh net n) ≡ true
  pub load : (order net : List ℕ) → load_number order net ≡ 0 → shape (net_after_load order net) ≡ true

-- ---- what loading gives: a row for each record, in LOST, row k on line with record k's ID. So the records are the nodes on line, and a lap is refused for one
-- record alone, or where the lent list is too short for them
pub record TheLoading (order net : List ℕ) : Type 0 where
  pub count : rows (net_after_load order net) ≡ records order
  pub lost : phase (net_after_load order net) ≡ LOST
  pub row : (k : ℕ) → k < records order → (on_line_at (net_after_load order net) k ≡ true) × ((regs_at (net_after_load order net) k).id ≡ id_at order k)
  pub on_line : nodes (net_after_load order net) ≡ records order
  pub lap : (room : ℕ) → lap_number (net_after_load order net) room ≡ told (ALONE when ltb (records order) 2 ∷ ROOM when ltb room (records order) ∷ [])

abbrev pub LoadingGives : Type 0
LoadingGives = (order net : List ℕ) → load_number order net ≡ 0 → TheLoading order net

-- ---- demand 2, "no other byte moves". A call that names a row changes no other row and, but for phase and holder, nothing of the header, which a read leaves
-- whole; of its row it may move those bytes alone that are named here. A step leaves the length and, but for phase and holder, the header; of each row it may move
-- `row_moves` alone. The page reader, its number and the interrupt can't change what they are lent; fresh and loading write every byte
pub record NoOtherByte : Type 0 where
  pub read : (net : List ℕ) (k g : ℕ) → OnlyRow net (net_after_read net k g) k (among (read_changes (regs_at net k) g))
  pub read_header : (net : List ℕ) (k g i : ℕ) → i < header_bytes → get_or (net_after_read net k g) i 0 ≡ get_or net i 0
  pub write : (net : List ℕ) (k g v : ℕ) → OnlyRow net (net_after_write net k g v) k (net_write_moves net k g v)
  pub reset : (net : List ℕ) (k : ℕ) → OnlyRow net (net_after_reset net k) k (reset_moves net k)
  pub timer : (net : List ℕ) (k : ℕ) → OnlyRow net (net_after_timer net k) k (among (at_diagnostic ∷ []))
  pub step_frame : (net : List ℕ) → Bytes net → shape net ≡ true → (fault : ℕ) → SameFrame net (step net fault).after
  pub step_row : (net : List ℕ) → Bytes net → shape net ≡ true → (fault j : ℕ) → j < rows net
      → OnlyAt (row_moves net (stores net fault j) j) (row_at net j) (row_at (step net fault).after j)

-- ---- the values that document 01, C-11 and C-16 give for each outcome: all the holder's registers after a step that answers Held, and so TA, TMA, TTA, byte 13 and the
-- count of NAKs; in a row with CCHEN 0 as document 01 alone gives TA, TMA and byte 13
abbrev pub OutcomesSay : Type 0
OutcomesSay =
    (net : List ℕ) → Bytes net → shape net ≡ true → phase net ≡ TAKEN → (fault : ℕ) (o : Outcome) → (step net fault).answer ≡ Held o
    → HolderLeft (regs_at net (holder net)) (regs_at (step net fault).after (holder net)) o
    × (chaining (regs_at net (holder net)) ≡ false → PlainLeft (regs_at net (holder net)) (regs_at (step net fault).after (holder net)) o)

-- ---- C-11, "Statements about rows with CCHEN 0 read as before": of such a row each definition of a card is document 01's, with C-16
abbrev pub PlainRows : Type 0
PlainRows = (net : List ℕ) → shape net ≡ true → (k : ℕ) → k < rows net → chaining (regs_at net k) ≡ false → Plain (regs_at net k)

-- ---- C-16, "ACK and NAK shall name the answering row": the row that an answer names is on line, carries the packet's DID and is not the sender; and the shape of a
-- packet that went, and whether it was stored
abbrev pub WhoAnswered : Type 0
WhoAnswered = (net : List ℕ) → Bytes net → shape net ≡ true → (fault : ℕ) (o : Outcome) → (step net fault).answer ≡ Held o → Named net fault o

-- a row that no NAK is counted of is as it was without C-16
abbrev pub UnrefusedRows : Type 0
UnrefusedRows = (net : List ℕ) → Bytes net → shape net ≡ true → (k : ℕ) → k < rows net → naks (regs_at net k) ≡ 0 → Unrefused (regs_at net k)

-- ---- "A fault that meets no message of its kind does nothing"
abbrev pub IdleFaults : Type 0
IdleFaults = (net : List ℕ) (fault : ℕ) → fault ≤ 3 → meets fault (step net 0).answer ≡ false → step net fault ≡ step net 0

-- ---- "So N is 1-253 or 257-508; 254, 255 and 256 cannot be sent": of the COUNT bytes, and whether the page may be long
abbrev pub Sizes : Type 0
Sizes = (count next : ℕ) (long : Bool) → count < 256 → next < 256 → malformed (shape_of count next long) ≡ false → CanBeSent (data_bytes (shape_of count next long))

-- ---- "no second outcome fits": the contract of every public function, crate by crate. None is left out; `laps::walk` is read in a way of its own (OfDesk)
pub record OneOutcome : Type 2 where
  pub bits : OfBits
  pub told : OfTold
  pub queues : OfQueues
  pub commands : OfCommands
  pub registers : OfRegisters
  pub card : OfCard
  pub table : OfTable
  pub line : OfLine
  pub orders : OfOrders
  pub desk : OfDesk
  pub words : OfWords

-- ---- the lap call is the lap: where it is not refused, its total, its entries and the network that it leaves are those of a lap, whose steps iterate the step;
-- "it makes 256 + 2n line steps", and writes n entries
pub record TheLap (net : List ℕ) (room : ℕ) : Type 0 where
  pub lap : FirstLapOf net (answers (lap_steps net) net) (lapped net room).total (net_after_lap net room)
  pub total : (lapped net room).total ≡ 256 + nodes net
  pub entries : lap_takers net room ≡ takers net 0 (answers (lap_steps net) net)
  pub count : length (lap_takers net room) ≡ nodes net
  pub made : lap_steps net ≡ 256 + 2 * nodes net
  pub left : net_after_lap net room ≡ after (lap_steps net) net
  -- "until the first holder has the token again"
  pub taken : phase (net_after_lap net room) ≡ TAKEN
  pub first : holder (net_after_lap net room) ≡ highest net
  -- "every later lap takes exactly n": whatever calls come after it, as in demand 3, with any number m of laps among them
  pub later : (l : List Call) → Throughout net l (net_after_lap net room) → (m : ℕ) → steps l (net_after_lap net room) ≡ m * (2 * nodes net)
      → (l' : List Call) → Throughout net l' (table l (net_after_lap net room)) → steps l' (table l (net_after_lap net room)) ≡ 2 * nodes net
      → LapOf net (answers_of l' (table l (net_after_lap net room))) (nodes net) (table l' (table l (net_after_lap net room)))

abbrev pub LapCallIsTheLap : Type 0
LapCallIsTheLap = (net : List ℕ) → Bytes net → (room : ℕ) → lap_number net room ≡ 0 → TheLap net room
