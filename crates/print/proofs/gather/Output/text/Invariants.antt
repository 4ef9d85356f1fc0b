-- A front of the text is gathered.
use Rattle.std.proofs.Common.{◌≡◌, take}
use Rattle.print.specs.Gather.{gather}
use Rattle.print.proofs.gather.Output.text.Given as goal

abbrev pub invariant-loop-b : goal.invariant-loop-b
invariant-loop-b g l = l.self ≡ gather l.fn.self (take l.b-index l.s)
