-- The digits are a part of the line.
use Rattle.std.proofs.Common.{length, ap, arith}
use Rattle.words.proofs.Lines.{part_length}
use Rattle.bench.proofs.turns.answer.Goals as goal

pub load-requires : goal.load-requires
load-requires g c = omega (arith, part_length 32 c.args.line.now 1, ap length c.word-in-Load.ensures.bytes)
