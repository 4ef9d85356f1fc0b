-- The search stops at none of the rows passed.
use Rattle.std.proofs.Common.{◌≡◌}
use Rattle.std.specs.Iterator.Adapters.{enumerate_source, enumerate_count}
use Rattle.table.specs.Folds.{seek}
use Rattle.table.proofs.Rows.Walk.{Before}
use Rattle.table.proofs.Online.Nodes.{other}
use Rattle.table.proofs.network.node_of.Given as goal

abbrev pub invariant-loop-k : goal.invariant-loop-k
invariant-loop-k l =
    let k = enumerate_count l.k-iterator in
    (goal.iterator-loop-k).can_next l.k-iterator × (goal.iterator-loop-k).is_finite l.k-iterator
    × Before l.net l.n k (enumerate_source l.k-iterator) × (seek (other l.net l.id l.except) k ≡ k)
