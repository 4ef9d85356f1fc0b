-- What a step answers, and how the answer that is handed back says it: the refusal by its number.
-- Assumes nothing.
use Rattle.std.specs.Prelude.{ℕ, Result, Ok, Err}
use Rattle.told.specs.declared.refusals.Refusal.{Refusal}
use Rattle.told.specs.Refusals.{number_of}
use Rattle.line.specs.declared.traffic.Outcome.{Outcome}
use Rattle.line.specs.declared.step.Answer as code
use Rattle.line.specs.declared.step.Answer.TheVariants as by

pub data Answer : Type 0 where
  Refused : ℕ → Answer
  Quiet : Answer
  Recovered : ℕ → Answer
  Passed : ℕ → Answer
  Unanswered : ℕ → Answer
  TokenLost : Answer
  Held : Outcome → Answer

abbrev pub said : code.Answer → Answer
said by.Quiet = Quiet
said (by.Recovered r) = Recovered r
said (by.Passed r) = Passed r
said (by.Unanswered i) = Unanswered i
said by.TokenLost = TokenLost
said (by.Held o) = Held o

abbrev pub answered : Result code.Answer Refusal → Answer
answered (Ok a) = said a
answered (Err e) = Refused (number_of e)
