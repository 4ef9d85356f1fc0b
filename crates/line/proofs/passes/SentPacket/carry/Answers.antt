use Rattle.std.proofs.Common.{◌≡◌, true, ℕ, ◌<◌, arith, rules}
use Rattle.card.specs.Row.{Whole, well_formed}
use Rattle.table.specs.Rows.{row_at}
use Rattle.table.proofs.Shaped.Shapes.{shape_row, shape_row_whole}
use Rattle.line.specs.Traffic.{carried}
use Rattle.line.proofs.Change.Each.{each_is}
use Rattle.line.proofs.passes.SentPacket.carry.Goals as goal

pub each_row_mut-requires-clause-accepts : goal.each_row_mut-requires-clause-accepts
each_row_mut-requires-clause-accepts c =
    let whole : (k : ℕ) → k < c.rows-n.result → Whole (row_at c.args.net.now k) = λ k l. shape_row_whole _ c.requires k (omega arith) in
    let fits : (k : ℕ) → k < c.rows-n.result → well_formed (row_at c.args.net.now k) ≡ true = λ k l. shape_row _ c.requires k (omega arith) in
    search (rules, whole, fits)

pub returns : goal.returns
unfolding carried
returns c = each_is _ _ _ _ _ _ c.rows-n.ensures.0 c.each_row_mut.ensures (λ k r l h. search rules)
