-- The loop's variables hold what the steps so far answered; the measure: the steps that are left until the first holder has the token again.
use Rattle.std.proofs.Common.{false}
use Rattle.desk.specs.Lap.{nodes}
use Rattle.desk.proofs.Lapping.Course.{left}
use Rattle.desk.proofs.Lapping.Going.{Going}
use Rattle.desk.proofs.laps.run.Given as goal

abbrev pub invariant-loop-row : goal.invariant-loop-row
invariant-loop-row l = Going l.initial.net l.first l.net l.walk.list l.walk.n l.since l.walk.total false

abbrev pub decreases-loop-row : goal.decreases-loop-row
decreases-loop-row l = left l.first (nodes l.initial.net) l.net
