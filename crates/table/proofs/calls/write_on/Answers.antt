use Rattle.std.proofs.Common.{ap, sym, ◌∙◌}
use Rattle.told.specs.Refusals.{number}
use Rattle.told.proofs.Told.Results.{is_done, handed_number, refused_keeps}
use Rattle.card.specs.Access.{row_after_write}
use Rattle.card.proofs.Rows.WellFormed.{size_write}
use Rattle.table.specs.Calls.{net_after_write}
use Rattle.table.proofs.Rows.Walks.{row_stays, walked_lies}
use Rattle.table.proofs.Online.Nodes.{online_is}
use Rattle.table.proofs.Shaped.Shapes.{shape_within, shape_room}
use Rattle.table.proofs.Access.Settled.{is_duplicate, card_refuses, then_duplicate, write_done}
use Rattle.table.proofs.calls.write_on.Goals as goal

pub node_of-requires : goal.node_of-requires
node_of-requires c = rw c.rows-n.ensures.0 (shape_room _ c.requires.net_value)

pub returns-in_err-may_write : goal.returns-in_err-may_write
unfolding net_after_write
returns-in_err-may_write c =
    let e = c.in_err-may_write.field-0.0 in
    let n = card_refuses _ _ c.requires.net_value c.requires.row_bound _ _ _ c.regs_at-g.ensures e (ap number (sym c.in_err-may_write.was) ∙ c.may_write.ensures) in
    record { number = handed_number _ e _ c.from_residual.ensures.1 n; bytes = refused_keeps e _ _ _ n }

pub returns-in_err-when : goal.returns-in_err-when
unfolding net_after_write
returns-in_err-when c =
    let e = c.in_err-when.field-0.0 in
    let n = then_duplicate _ _ c.requires.net_value c.requires.row_bound _ _ _ c.regs_at-g.ensures
    (is_done _ _ _ c.in_ok-may_write.was c.may_write.ensures) _
    (is_duplicate _ _ _ _ c.regs_at-g.ensures _ _ c.after_write-after.ensures _ c.rows-n.ensures.0 _ c.on_line.ensures _ c.node_of.ensures)
    _ (ap number (sym c.in_err-when.was) ∙ rw c.is_some.ensures at c.when.ensures) in
    record { number = handed_number _ e _ c.from_residual-in_err-when.ensures.1 n; bytes = refused_keeps e _ _ _ n }

pub settle-requires : goal.settle-requires
settle-requires c =
    row_stays _ _ _ _ (walked_lies _ _ _ c.row_start-a.ensures (shape_within _ c.requires.net_value _ c.requires.row_bound) _ c.row_end-e.ensures)
    (λ r. row_after_write r c.args.register c.args.value) _ c.write.ensures (λ r. size_write r c.args.register c.args.value)

pub returns : goal.returns
returns c =
    let n = then_duplicate _ _ c.requires.net_value c.requires.row_bound _ _ _ c.regs_at-g.ensures
    (is_done _ _ _ c.in_ok-may_write.was c.may_write.ensures) _
    (is_duplicate _ _ _ _ c.regs_at-g.ensures _ _ c.after_write-after.ensures _ c.rows-n.ensures.0 _ c.on_line.ensures _ c.node_of.ensures)
    (number c.when.result) (rw c.is_some.ensures at c.when.ensures) in
    let z = is_done _ _ _ c.in_ok-when.was n in
    let l = walked_lies _ _ _ c.row_start-a.ensures (shape_within _ c.requires.net_value _ c.requires.row_bound) _ c.row_end-e.ensures in
    record { number = sym z; bytes = write_done _ _ _ _ z _ _ l _ c.write.ensures _ (online_is _ _ _ _ c.regs_at-g.ensures c.on_line-2.ensures) _ c.settle.ensures }
