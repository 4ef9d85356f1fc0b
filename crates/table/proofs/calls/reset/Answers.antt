use Rattle.std.proofs.Common.{refl}
use Rattle.told.proofs.Told.Results.{is_done}
use Rattle.registers.specs.Registers.{hardware_reset}
use Rattle.card.specs.Access.{row_after_reset}
use Rattle.card.proofs.Rows.Bytes.{size_put}
use Rattle.table.proofs.Rows.Walks.{walked_lies, row_stays}
use Rattle.table.proofs.Online.Nodes.{online_is}
use Rattle.table.proofs.Access.Placed.{at_part}
use Rattle.table.proofs.Access.Settled.{reset_done}
use Rattle.table.proofs.calls.reset.Goals as goal

pub settle-requires : goal.settle-requires
settle-requires c =
    let z = is_done _ _ _ c.in_ok-place.was c.place.ensures in
    row_stays _ _ _ _ (walked_lies _ _ _ c.row_start-a.ensures (at_part _ _ _ refl z).1 _ c.row_end-e.ensures)
    row_after_reset _ c.hardware_reset.ensures (λ r. size_put r hardware_reset)

pub returns-clause-bytes : goal.returns-clause-bytes
returns-clause-bytes c =
    let z = is_done _ _ _ c.in_ok-place.was c.place.ensures in
    reset_done _ _ z _ (online_is _ _ _ _ c.regs_at.ensures c.on_line-was.ensures) _ _
    (walked_lies _ _ _ c.row_start-a.ensures (at_part _ _ _ refl z).1 _ c.row_end-e.ensures) _ c.hardware_reset.ensures _ c.settle.ensures
