use Rattle.std.proofs.Common.{◌≡◌, length, arith}
use Rattle.table.specs.Network.{row_limit}
use Rattle.desk.proofs.Lapping.LapLeaves.{leaves_refused, stored}
use Rattle.desk.proofs.laps.lap.Goals as goal

pub returns-in_err-walk-clause-value : goal.returns-in_err-walk-clause-value
returns-in_err-walk-clause-value c =
    let w = c.in_err-walk.ensures.walks in
    leaves_refused _ _ _ _ _ c.from_residual.ensures.1 w.4 w.5

pub returns-clause-value : goal.returns-clause-value
returns-clause-value c =
    let w = c.in_ok-walk.ensures.walks in
    let sized : length c.in_ok-walk.walk.list ≡ row_limit = omega arith in
    (w.4, w.5, stored _ c.in_ok-walk.walk.list _ _ _ sized w.0 w.2 c.copy_from_slice.ensures.after)
