-- The bytes that are left bring h to the whole sum.
use Rattle.std.proofs.Common.{◌≡◌, drop}
use Rattle.prompt.specs.Sums.{BASIS, sum_after}
use Rattle.prompt.proofs.sums.sum.Given as goal

abbrev pub invariant-loop-b : goal.invariant-loop-b
invariant-loop-b l = sum_after l.h (drop l.b-index l.s) ≡ sum_after BASIS l.s
