use Rattle.std.proofs.Common.{ℕ, ◌<◌, ◌≤◌, length, arith, rules}
use Rattle.card.specs.Row.{register_bytes}
use Rattle.card.proofs.Rows.Sizes.{whole_registers}
use Rattle.table.specs.Rows.{row_at}
use Rattle.table.proofs.Shaped.Shapes.{shape_row_whole}
use Rattle.line.specs.Traffic.{happened}
use Rattle.line.proofs.Change.Each.{each_is}
use Rattle.line.proofs.Change.Made.{shape_happened, rows_happened}
use Rattle.line.proofs.passes.happen.Goals as goal

pub each_row_mut-requires-clause-accepts : goal.each_row_mut-requires-clause-accepts
each_row_mut-requires-clause-accepts c =
    let room : (k : ℕ) → k < c.rows-n.result → register_bytes ≤ length (row_at c.args.net.now k) = λ k l. whole_registers _ (shape_row_whole _ c.requires k (omega arith)) in
    search (rules, room)

pub returns-clause-bytes : goal.returns-clause-bytes
unfolding happened
returns-clause-bytes c = each_is _ _ _ _ _ _ c.rows-n.ensures.0 c.each_row_mut.ensures (λ k r l h. search rules)

pub returns-clause-rows : goal.returns-clause-rows
returns-clause-rows c = rw (returns-clause-bytes c) (shape_happened _ _ c.requires, rows_happened _ _ c.requires)
