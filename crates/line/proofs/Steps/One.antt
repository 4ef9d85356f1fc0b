-- What a step answers leaves one result.
-- Assumes nothing.
use mathlib.Core.Path.{◌≡◌, refl, ap}
use Rattle.std.proofs.Common.{Result, Ok, Err}
use Rattle.told.specs.declared.refusals.Refusal.{Refusal}
use Rattle.told.proofs.Told.One.{one_by, refusal_of, refusal_back}
use Rattle.line.specs.declared.step.Answer as code
use Rattle.line.specs.declared.step.Answer.TheVariants as by
use Rattle.line.specs.Answers.{Answer, Refused, Quiet, Recovered, Passed, Unanswered, TokenLost, Held, said, answered}

abbrev step_result : Answer → Result code.Answer Refusal
step_result (Refused n) = Err (refusal_of n)
step_result Quiet = Ok by.Quiet
step_result (Recovered r) = Ok (by.Recovered r)
step_result (Passed r) = Ok (by.Passed r)
step_result (Unanswered i) = Ok (by.Unanswered i)
step_result TokenLost = Ok by.TokenLost
step_result (Held o) = Ok (by.Held o)

said_back : (a : code.Answer) → step_result (said a) ≡ Ok a
said_back by.Quiet = refl
said_back (by.Recovered r) = refl
said_back (by.Passed r) = refl
said_back (by.Unanswered i) = refl
said_back by.TokenLost = refl
said_back (by.Held o) = refl

answered_back : (r : Result code.Answer Refusal) → step_result (answered r) ≡ r
answered_back (Ok a) = said_back a
answered_back (Err e) = ap (λ x. Err x) (refusal_back e)

pub answered_one : (r s : Result code.Answer Refusal) → answered r ≡ answered s → r ≡ s
answered_one = one_by answered step_result answered_back

-- the answer of a step that is not refused
abbrev answer_of : Result code.Answer Refusal → code.Answer
answer_of (Ok a) = a
answer_of (Err e) = by.Quiet

pub said_one : (a b : code.Answer) → said a ≡ said b → a ≡ b
said_one = one_by said (λ s. answer_of (step_result s)) (λ a. ap answer_of (said_back a))
