use Rattle.told.proofs.Told.Results.{is_done}
use Rattle.table.proofs.Access.Placed.{data_stands}
use Rattle.table.proofs.calls.page_data.Goals as goal

pub returns-in-Ok-clause-place : goal.returns-in-Ok-clause-place
returns-in-Ok-clause-place c =
    data_stands _ _ _ (is_done _ _ _ c.in-Ok.is c.place.ensures) _ c.row_at.ensures.bytes _ _ _ c.row_at.ensures.place c.page_data.ensures.place
