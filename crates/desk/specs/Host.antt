-- The calls that a host makes of a network, in whatever order they come: what each answers, and what it leaves.
-- Assumes nothing.
use Rattle.std.specs.Prelude.{List, [], ◌∷◌, ℕ, ◌<◌}
use Rattle.card.specs.Packets.{data_from}
use Rattle.table.specs.Rows.{row_at}
use Rattle.table.specs.Calls.{Reading, Interrupting, place_number, net_reading, net_after_read, net_write_number, net_after_write, net_after_reset, timer_number, net_after_timer, net_interrupt, net_data, net_data_number}
use Rattle.line.specs.Answers.{Answer}
use Rattle.line.specs.Step.{step, answer_number}
use Rattle.desk.specs.declared.laps.Taker.{Taker}
use Rattle.desk.specs.Lap.{Lapped, lapped, net_after_lap, lap_takers}

-- to one row: register read (register) and write (register, value, which is a byte); hardware reset, lost-token timer and interrupt; page reader (page) and its number
pub data RowCall : Type 0 where
  Read : ℕ → RowCall
  Write : ℕ → (v : ℕ) → v < 256 → RowCall
  Reset : RowCall
  Timer : RowCall
  Interrupt : RowCall
  Data : ℕ → RowCall
  DataNumber : ℕ → RowCall

-- such a call to row k; a line step (fault); a lap (how many entries the lent list has room for). The fresh call and loading make a network, and are not among them
pub data Call : Type 0 where
  At : ℕ → RowCall → Call
  Step : ℕ → Call
  Lap : ℕ → Call

-- what comes back: a number; a number and a register's value; a number and the interrupt line; a stretch of the row that was asked, how far into it and which bytes;
-- what the step answers; a lap's number and total, and the takers that it writes into the lent list, whose other entries stay
pub data Reply : Type 0 where
  Number : ℕ → Reply
  Register : Reading → Reply
  Line : Interrupting → Reply
  Stretch : ℕ → List ℕ → Reply
  Stepped : Answer → Reply
  Takers : Lapped → List Taker → Reply

abbrev pub replied : Call → List ℕ → Reply
replied (At k (Read g)) net = Register (net_reading net k g)
replied (At k (Write g v _)) net = Number (net_write_number net k g v)
replied (At k Reset) net = Number (place_number net k)
replied (At k Timer) net = Number (timer_number net k)
replied (At k Interrupt) net = Line (net_interrupt net k)
replied (At k (Data p)) net = Stretch (data_from (row_at net k) p) (net_data net k p)
replied (At k (DataNumber p)) net = Number (net_data_number net k p)
replied (Step fault) net = Stepped (step net fault).answer
replied (Lap room) net = Takers (lapped net room) (lap_takers net room)

-- the network that it leaves
abbrev pub called : Call → List ℕ → List ℕ
called (At k (Read g)) net = net_after_read net k g
called (At k (Write g v _)) net = net_after_write net k g v
called (At k Reset) net = net_after_reset net k
called (At k Timer) net = net_after_timer net k
called (At k Interrupt) net = net
called (At k (Data p)) net = net
called (At k (DataNumber p)) net = net
called (Step fault) net = (step net fault).after
called (Lap room) net = net_after_lap net room

-- "each call given the table as the last one left it"
unfoldable pub replies : List Call → List ℕ → List Reply
replies [] net = []
replies (c ∷ l) net = replied c net ∷ replies l (called c net)

unfoldable pub table : List Call → List ℕ → List ℕ
table [] net = net
table (c ∷ l) net = table l (called c net)

-- the number of a reply, 0 where the call was not refused; the page reader tells none, and its number is a call of its own
abbrev pub reply_number : Reply → ℕ
reply_number (Number n) = n
reply_number (Register r) = r.number
reply_number (Line i) = i.number
reply_number (Stretch d s) = 0
reply_number (Stepped a) = answer_number a
reply_number (Takers l t) = l.number
