-- A front of the bytes is gathered.
use Rattle.std.proofs.Common.{◌≡◌, take}
use Rattle.print.specs.Gather.{gather, hex}
use Rattle.print.proofs.gather.Output.bytes.Given as goal

abbrev pub invariant-loop-b : goal.invariant-loop-b
invariant-loop-b g l = l.self ≡ gather l.fn.self (hex (take l.b-index l.s))
