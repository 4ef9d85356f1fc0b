-- "The smallest number wins": the list of each call rises, and that of a record of an order; loading tells the order's before ROOM.
-- Assumes nothing.
use mathlib.Core.Path.{refl, ap}
use Rattle.told.proofs.Told.Smallest.{smallest}
use Rattle.table.proofs.Access.Rising.{place_smallest, read_smallest, write_smallest, timer_smallest, interrupt_smallest, data_smallest, fresh_smallest}
use Rattle.line.proofs.Steps.Refused.{step_smallest}
use Rattle.orders.proofs.Checks.Fit.{record_smallest}
use Rattle.desk.specs.Load.{room_refusals}
use Rattle.promises.specs.Promises.{SmallestWins}
use Rattle.desk.proofs.Loads.Loaded.{number, order_first, load_room}
use Rattle.desk.proofs.Lapping.LapNumber.{lap_smallest}

pub smallest_wins : SmallestWins
smallest_wins = record {
  read = read_smallest;
  write = write_smallest;
  reset = place_smallest;
  timer = timer_smallest;
  interrupt = interrupt_smallest;
  page_data = data_smallest;
  fresh = fresh_smallest;
  step_of = step_smallest;
  lap = lap_smallest;
  of_record = record_smallest;
  load_order = order_first;
  load_room = λ order net o. rw (ap number (load_room order net o)) (smallest (room_refusals order net) refl);
}
