use Rattle.std.proofs.Common.{arith}
use Rattle.table.proofs.Access.Fresh.{exact_most}
use Rattle.lap.proofs.main.Goals as goal

pub answer-requires-clause-row_limit_in_bounds : goal.answer-requires-clause-row_limit_in_bounds
answer-requires-clause-row_limit_in_bounds c = omega (arith, exact_most)
