-- Document 01, "One line step": LOST, PASS, and the step itself.
-- Assumes nothing.
use Rattle.std.specs.Prelude.{Bool, true, false, not, List, [], ◌∷◌, ℕ, eqb, ltb}
use Rattle.line.specs.declared.passes.Event.TheVariants.{Recovery, Message, Taken}
use Rattle.line.specs.declared.traffic.Outcome.{Outcome}
use Rattle.line.specs.declared.traffic.Outcome.TheVariants.{Nothing, Malformed, Broadcast, NoAnswer, Nak, Delivered, Unacknowledged}
use Rattle.line.specs.Answers.{Answer, Refused, Quiet, Recovered, Passed, Unanswered, TokenLost, Held}
use Rattle.bits.specs.Words.{pick}
use Rattle.told.specs.Numbers.{SHAPE, VALUE, Refusal, ◌when◌, told}
use Rattle.registers.specs.Events.{risen_nid}
use Rattle.table.specs.Network.{rows, phase, holder, LOST, PASS, TAKEN, turned, regs_at, node_of, top_id, shape}
use Rattle.line.specs.Traffic.{outcome_row, Turn, on_row, happened, taken_turn}

-- "3 invitation destroyed"
abbrev pub destroyed : ℕ → Bool
destroyed fault = eqb fault 3

-- ---- "LOST: no node on line: Quiet, nothing changes. Else .. the on-line row of highest ID holds in PASS. Recovered(row)."
abbrev pub highest : List ℕ → ℕ
highest net = node_of net (top_id net (rows net)) (rows net) (rows net)

unfoldable pub lost_turn : List ℕ → Turn Answer
lost_turn net =
    pick (eqb (top_id net (rows net)) 0) (record { answer = Quiet; after = net })
    (record { answer = Recovered (highest net); after = turned (happened net Recovery) PASS (highest net) })

-- ---- "PASS: an invitation goes to the holder's NID"
abbrev pub invited : List ℕ → ℕ
invited net = (regs_at net (holder net)).nid

-- "If another on-line row has that ID it holds, phase TAKEN: Passed(row) .. Else NID rises by one, 255 to 0: Unanswered(the ID invited). Fault 3: other awake
-- rows get RCVACT only, phase LOST: TokenLost"
abbrev pub taker : List ℕ → ℕ
taker net = node_of net (invited net) (holder net) (rows net)

unfoldable pub pass_turn : List ℕ → ℕ → Turn Answer
pass_turn net fault =
    pick (destroyed fault) (record { answer = TokenLost; after = turned (happened net (Message (holder net) false)) LOST 0 })
    (pick (ltb (taker net) (rows net))
    (record { answer = Passed (taker net); after = turned (happened (happened net (Message (holder net) true)) (Taken (invited net) (taker net))) TAKEN (taker net) })
    (record { answer = Unanswered (invited net); after = on_row (happened net (Message (holder net) true)) (holder net) risen_nid }))

-- "Phase becomes PASS. Held(outcome)."
abbrev pub held : Turn Outcome → ℕ → Turn Answer
held t h = record { answer = Held t.answer; after = turned t.after PASS h }

-- ---- the step
unfoldable pub step_turn : List ℕ → ℕ → Turn Answer
step_turn net fault =
    pick (eqb (phase net) LOST) (lost_turn net) (pick (eqb (phase net) PASS) (pass_turn net fault) (held (taken_turn net (holder net) fault) (holder net)))

-- "1 SHAPE", "4 VALUE: fault above 3"
unfoldable pub step_refusals : List ℕ → ℕ → List Refusal
step_refusals net fault = SHAPE when not (shape net) ∷ VALUE when ltb 3 fault ∷ []

unfoldable pub step_number : List ℕ → ℕ → ℕ
step_number net fault = told (step_refusals net fault)

unfoldable pub step : List ℕ → ℕ → Turn Answer
step net fault = pick (eqb (step_number net fault) 0) (step_turn net fault) (record { answer = Refused (step_number net fault); after = net })

-- the number of an answer, in the table of "Numbers a caller may get"
abbrev pub answer_number : Answer → ℕ
answer_number (Refused n) = n
answer_number Quiet = 0
answer_number (Recovered r) = 0
answer_number (Passed r) = 0
answer_number (Unanswered i) = 0
answer_number TokenLost = 0
answer_number (Held o) = 0

-- the row, or the ID, that an answer names, of Held the row that answered the enquiry; 0 where it names none
abbrev pub answer_value : Answer → ℕ
answer_value (Refused n) = 0
answer_value Quiet = 0
answer_value (Recovered r) = r
answer_value (Passed r) = r
answer_value (Unanswered i) = i
answer_value TokenLost = 0
answer_value (Held o) = outcome_row o

-- C-24, "the same answers with rows renamed": the row that an answer names; the ID stays
abbrev pub outcome_to : (ℕ → ℕ) → Outcome → Outcome
outcome_to to Nothing = Nothing
outcome_to to Malformed = Malformed
outcome_to to (Broadcast s) = Broadcast s
outcome_to to NoAnswer = NoAnswer
outcome_to to (Nak r) = Nak (to r)
outcome_to to (Delivered r s) = Delivered (to r) s
outcome_to to (Unacknowledged r s stored) = Unacknowledged (to r) s stored

abbrev pub renamed : (ℕ → ℕ) → Answer → Answer
renamed to (Refused n) = Refused n
renamed to Quiet = Quiet
renamed to (Recovered r) = Recovered (to r)
renamed to (Passed r) = Passed (to r)
renamed to (Unanswered i) = Unanswered i
renamed to TokenLost = TokenLost
renamed to (Held o) = Held (outcome_to to o)
