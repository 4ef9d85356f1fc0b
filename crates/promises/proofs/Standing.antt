-- A call leaves a well-formed network well formed; and what loading gives.
-- Assumes nothing.
use Rattle.table.proofs.Shaped.Alike.{bytes_rams}
use Rattle.table.proofs.Access.ShapeCalls.{shape_read, shape_write, shape_reset, shape_timer, shape_fresh_call}
use Rattle.line.proofs.Steps.StepBy.{sound_step}
use Rattle.promises.specs.Promises.{StaysWellFormed, LoadingGives}
use Rattle.desk.proofs.Loads.Loaded.{loaded_shape, loaded_rows_lem, loaded_lost, loaded_row_lem}
use Rattle.desk.proofs.Loads.Nodes.{loaded_nodes, loaded_lap}
use Rattle.desk.proofs.Lapping.Walking.{shape_lap}

pub stays_well_formed : StaysWellFormed
stays_well_formed = record {
  read = λ net s k. shape_read net s k;
  write = λ net s k. shape_write net s k;
  reset = λ net s k. shape_reset net s k;
  timer = λ net s k. shape_timer net s k;
  step_of = λ net b s fault. (sound_step net s (bytes_rams net s b) fault).fits;
  lap = λ net b s room. shape_lap net s (bytes_rams net s b) room;
  fresh = shape_fresh_call;
  load = loaded_shape;
}

pub loading_gives : LoadingGives
loading_gives order net z = record {
  count = loaded_rows_lem order net z;
  lost = loaded_lost order net z;
  row = loaded_row_lem order net z;
  on_line = loaded_nodes order net z;
  lap = loaded_lap order net z;
}
