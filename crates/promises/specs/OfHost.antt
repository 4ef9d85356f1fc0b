-- A host's calls (`desk` Host), over the contracts: what a caller of each function learns is that it answers and leaves what is said there of the call.
-- Assumes nothing.
use Rattle.std.specs.Prelude.{◌≡◌, List, ℕ, ◌+◌, ◌<◌, length}
use Rattle.places.specs.Places.{onward}
use Rattle.told.specs.Refusals.{number}
use Rattle.card.specs.Packets.{data_from}
use Rattle.table.specs.Rows.{row_start, row_at}
use Rattle.table.specs.Calls.{reading, interrupting}
use Rattle.line.specs.Answers.{answered}
use Rattle.desk.specs.contracts as desk_contracts
use Rattle.line.specs.contracts as line_contracts
use Rattle.table.specs.contracts as table_contracts
use Rattle.table.proofs.calls as calls
use Rattle.line.proofs.step as step
use Rattle.desk.proofs.laps as laps
use Rattle.desk.specs.Lap.{lapping, lap_takers, list_after_lap}
use Rattle.desk.specs.Host.{Call, At, Read, Write, Reset, Timer, Interrupt, Data, DataNumber, Step, Lap, Reply, Number, Register, Line, Stretch, Stepped, Takers, replied, called, reply_number}
use Rattle.promises.specs.Once.{Says}

-- the call c of a network answers r and leaves the network `new`
abbrev pub Answers : Call → List ℕ → Reply → List ℕ → Type 0
Answers c net r new = (r ≡ replied c net) × (new ≡ called c net)

-- of each function a is what it is passed: the network, then a row, a fault or the list, and what else is asked; x its answer, w what was lent as it leaves it
pub record OfHost : Type 0 where
  pub read : Says table_contracts.calls.read.ended (λ κs a x w. Answers (At a.1.0 (Read a.1.1.0)) a.0.now (Register (reading x)) w.0) calls.read.Reads.Learnt
  pub write : Says table_contracts.calls.write.ended
      (λ κs a x w. (b : a.1.1.1.0 < 256) → Answers (At a.1.0 (Write a.1.1.0 a.1.1.1.0 b)) a.0.now (Number (number x)) w.0) calls.write.Reads.Learnt
  pub reset : Says table_contracts.calls.reset.ended (λ κs a x w. Answers (At a.1.0 Reset) a.0.now (Number (number x)) w.0) calls.reset.Reads.Learnt
  pub timer : Says table_contracts.calls.timer.ended (λ κs a x w. Answers (At a.1.0 Timer) a.0.now (Number (number x)) w.0) calls.timer.Reads.Learnt
  pub interrupt : Says table_contracts.calls.interrupt.ended (λ κs a x w. Answers (At a.1.0 Interrupt) a.0.now (Line (interrupting x)) a.0.now) calls.interrupt.Reads.Learnt
  pub may_read_data : Says table_contracts.calls.may_read_data.ended
      (λ κs a x w. Answers (At a.1.0 (DataNumber a.1.1.0)) a.0.now (Number (number x)) a.0.now) calls.may_read_data.Reads.Learnt
  -- where it is not refused the stretch stands in the row that was asked, so far from the row's start
  pub page_data : Says table_contracts.calls.page_data.ended
      (λ κs a x w.
      let net = a.0.now in
      let k = a.1.0 in
      let p = a.1.1.0 in
      let from = data_from (row_at net k) p in
      Answers (At k (Data p)) net (Stretch from x.now) net × (reply_number (replied (At k (DataNumber p)) net) ≡ 0 → x.ref_ptr ≡ onward a.0.ref_ptr (row_start net k + from)))
      calls.page_data.Reads.Learnt
  pub step_of : Says line_contracts.step.step.ended (λ κs a x w. Answers (Step a.1.0) a.0.now (Stepped (answered x)) w.0) step.step.Reads.Learnt
  -- the room is that of the lent list, and the takers are written into it
  pub lap : Says desk_contracts.laps.lap.ended
      (λ κs a x w.
      let net = a.0.now in
      let list = a.1.0.now in
      Answers (Lap (length list)) net (Takers (lapping x) (lap_takers net (length list))) w.0 × (w.1.0 ≡ list_after_lap net list)) laps.lap.Reads.Learnt
