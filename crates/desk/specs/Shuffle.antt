-- Request C-24, shuffle the rows whole: "if the rows of a well-formed network are put in another order, each row whole, called rows and (outside LOST) the holder
-- renamed alike, then any sequence of register, reset, timer, line and lap calls gives the same answers with rows renamed, and ends in the same network with rows
-- in that order". Loading and the fresh call, which write the rows in an order of their own, and whatever keeps the earlier of two rows, are outside it.
-- Assumes nothing.
use Rattle.std.specs.Prelude.{◌≡◌, true, List, map, ℕ}
use Rattle.table.specs.Network.{Bytes, rows, shape}
use Rattle.table.specs.Shuffle.{Shuffle, shuffled}
use Rattle.line.specs.Step.{renamed}
use Rattle.desk.specs.declared.laps.Taker.{Taker}
use Rattle.desk.specs.Host.{Call, At, Step, Lap, Reply, Number, Register, Line, Stretch, Stepped, Takers, replies, table}

-- "called rows .. renamed alike"
abbrev pub call_to : (ℕ → ℕ) → Call → Call
call_to to (At k c) = At (to k) c
call_to to (Step fault) = Step fault
call_to to (Lap room) = Lap room

-- "the same answers with rows renamed": those that a step names, and each taker's; a number, a register's value and a stretch of the row that was asked name none
abbrev pub taker_to : (ℕ → ℕ) → Taker → Taker
taker_to to t = record { id = t.id; row = to t.row; invitations = t.invitations }

abbrev pub reply_to : (ℕ → ℕ) → Reply → Reply
reply_to to (Number n) = Number n
reply_to to (Register r) = Register r
reply_to to (Line i) = Line i
reply_to to (Stretch d s) = Stretch d s
reply_to to (Stepped a) = Stepped (renamed to a)
reply_to to (Takers d l) = Takers d (map (taker_to to) l)

-- the theorem: "any sequence of .. calls gives the same answers with rows renamed, and ends in the same network with rows in that order"
abbrev pub ShuffledWhole : Type 0
ShuffledWhole =
    (net : List ℕ) → Bytes net → shape net ≡ true → (q : Shuffle (rows net)) (l : List Call)
    → (replies (map (call_to q.to) l) (shuffled q net) ≡ map (reply_to q.to) (replies l net))
    × (table (map (call_to q.to) l) (shuffled q net) ≡ shuffled q (table l net))
