-- The line is DONE and the bytes: a write fails in one of the two, or when the line ends.
use Rattle.std.proofs.Common.{sym}
use Rattle.prompt.specs.Answers.{DONE}
use Rattle.print.proofs.Gathers.{then_both, stopped_first, stopped_second, ends_stop, ends_then}
use Rattle.prompt.proofs.answers.hex.Goals as goal

pub returns-in_err-text : goal.returns-in_err-text
returns-in_err-text g c = rw (sym c.begin.ensures) (ends_stop _ _ _ _ _ c.from_residual.ensures.1 (stopped_first _ _ DONE _ c.in_err-text.ensures))

pub returns-in_err-spaced : goal.returns-in_err-spaced
returns-in_err-spaced g c =
    rw (sym c.begin.ensures) (ends_stop _ _ _ _ _ c.from_residual-in_err-spaced.ensures.1 (stopped_second _ _ _ DONE _ c.in_ok-text.ensures c.in_err-spaced.ensures))

pub returns : goal.returns
returns g c = rw (sym c.begin.ensures) (ends_then _ _ _ _ _ (then_both _ _ _ DONE _ c.in_ok-text.ensures c.in_ok-spaced.ensures) c.end.ensures)
