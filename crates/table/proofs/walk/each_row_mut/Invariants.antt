-- f has changed the rows below k, and a is where row k starts.
use Rattle.std.specs.Fork.{ChangesAt}
use Rattle.table.proofs.Rows.Passes.{ChangedTo}
use Rattle.table.proofs.walk.each_row_mut.Given as goal

abbrev pub invariant-loop-k : goal.invariant-loop-k
invariant-loop-k g l = ChangedTo (ChangesAt g.F.Fn l.f) l.fn.net l.net l.k l.a
