-- The rows passed are loaded.
use Rattle.std.proofs.Common.{◌≡◌}
use Rattle.desk.specs.Load.{loaded_rows}
use Rattle.desk.proofs.loading.load.Given as goal

abbrev pub invariant-loop-k : goal.invariant-loop-k
invariant-loop-k l = l.net ≡ loaded_rows l.order l.initial.net l.k
