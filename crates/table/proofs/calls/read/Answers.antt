use Rattle.told.proofs.Told.Results.{is_done}
use Rattle.table.proofs.Rows.Walks.{walked_lies}
use Rattle.table.proofs.Access.Placed.{read_part, read_done}
use Rattle.table.proofs.calls.read.Goals as goal

pub returns : goal.returns
returns c =
    let z = is_done _ _ _ c.in_ok-may_read.was c.may_read.ensures in
    let l = walked_lies _ _ _ c.row_start-a.ensures (read_part _ _ _ z).1 _ c.row_end-e.ensures in
    let d = read_done _ _ _ z _ _ l _ _ c.read.ensures.value c.read.ensures.bytes in
    record { answer = d.0; bytes = d.1 }
