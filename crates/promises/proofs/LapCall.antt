-- The lap call is the lap of demand 3: what it answers, its entries and its network are those of the steps, and the laps after it are later laps.
-- Assumes nothing.
use mathlib.Core.Path.{◌∙◌}
use mathlib.Core.List.{[]}
use Prim.Native.Nat.{◌+◌}
use native.Mathlib.Omega.{arith}
use Rattle.table.proofs.Shaped.Alike.{bytes_rams}
use Rattle.line.proofs.Steps.View.{alike_same}
use Rattle.desk.specs.Lap.{nodes, after, answers, lap_steps}
use Rattle.desk.specs.Demand.{Ready, FirstLapOf, Demand3}
use Rattle.promises.specs.Promises.{LapCallIsTheLap}
use Rattle.desk.proofs.Lapping.LapNumber.{lap_shape, lap_lost, lap_two}
use Rattle.desk.proofs.Lapping.LapLeaves.{done_total, done_leaves, done_entries}
use Rattle.desk.proofs.Runs.Back.{lap_steps_lem, lap_phase, lap_holder}
use Rattle.desk.proofs.Runs.LapCounts.{lap_entries}
use Rattle.desk.proofs.Runs.StepCalls.{step_calls, table_steps, count_steps, throughout_steps, answers_steps, table_only, count_only, throughout_only}
use Rattle.desk.proofs.Theorems.Demanded as desk

pub demand3 : Demand3
demand3 = desk.demand3

pub lap_call : LapCallIsTheLap
lap_call net bytes room z =
    let s = lap_shape net room z in
    let l = lap_lost net room z in
    let t = lap_two net room z in
    let b = bytes_rams net s bytes in
    let a = alike_same net s b in
    let r : Ready net = record { bytes = bytes; fits = s; lost = l; two = t } in
    let k = lap_steps net in
    let made = lap_steps_lem net s b l t in
    let first = (demand3 net r (step_calls k []) (throughout_only k net a)).0 (count_only k net a ∙ made) in
    let lap : FirstLapOf net (answers k net) (256 + nodes net) (after k net) = rw (answers_steps net k net a, table_only k net a) at first in
    record {
      lap = rw (done_total net room z, lap.lap.invited, done_leaves net room z) lap;
      total = done_total net room z ∙ lap.lap.invited;
      entries = done_entries net room z;
      count = rw (done_entries net room z) (lap_entries net s b l t);
      made = made;
      left = done_leaves net room z;
      taken = rw (done_leaves net room z) (lap_phase net s b l t);
      first = rw (done_leaves net room z) (lap_holder net s b l t);
      later = rw (done_leaves net room z) (λ h u m e h' u' e'.
          rw (table_steps h k net) at
          ((demand3 net r (step_calls k h) (throughout_steps h net k net a u)).1 m (omega (arith, count_steps h net k net a, made, e)) h' (rw (table_steps h k net) u') (rw (table_steps h k net) e')));
    }
