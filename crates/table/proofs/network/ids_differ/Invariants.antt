-- No row passed has the ID of a row before it, both on line.
use Rattle.std.specs.Iterator.Adapters.{enumerate_source, enumerate_count}
use Rattle.table.proofs.Folds.{Passed}
use Rattle.table.proofs.Rows.Walk.{Before}
use Rattle.table.proofs.Online.Nodes.{free}
use Rattle.table.proofs.network.ids_differ.Given as goal

abbrev pub invariant-loop-k : goal.invariant-loop-k
invariant-loop-k l =
    let k = enumerate_count l.k-iterator in
    (goal.iterator-loop-k).can_next l.k-iterator × (goal.iterator-loop-k).is_finite l.k-iterator
    × Before l.net l.n k (enumerate_source l.k-iterator) × Passed (free l.net) l.n k
