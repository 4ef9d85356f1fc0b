use Rattle.desk.proofs.Lapping.LapDone.{refused, run}
use Rattle.desk.proofs.laps.walk.Goals as goal

pub returns-in_err-may_lap-clause-walks : goal.returns-in_err-may_lap-clause-walks
returns-in_err-may_lap-clause-walks c = refused _ _ _ _ c.from_residual.ensures.1 c.in_err-may_lap.ensures

pub returns-clause-walks : goal.returns-clause-walks
returns-clause-walks c =
    let q = c.run.ensures in
    run _ _ _ _ c.in_ok-may_lap.was c.may_lap.ensures c.run.result _ q.total q.count q.list q.rest q.bytes
