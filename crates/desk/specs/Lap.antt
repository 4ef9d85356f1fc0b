-- Document 01, "Order forms and the lap": the lap call.
-- Assumes nothing.
use Rattle.std.specs.Prelude.{Bool, true, false, not, ◌&&◌, Result, Ok, Err, List, [], ◌∷◌, ◌++◌, ◌≡◌, ℕ, zero, suc, ◌+◌, ◌*◌, ◌≤◌, eqb, ltb, length, take, drop, replicate}
use Rattle.bits.specs.Words.{pick}
use Rattle.told.specs.declared.refusals.Refusal as kinds
use Rattle.told.specs.Refusals.{number_of}
use Rattle.told.specs.Numbers.{DONE, SHAPE, BUSY, ALONE, ROOM, Refusal, ◌when◌, told}
use Rattle.line.specs.Answers.{Answer}
use Rattle.line.specs.Answers.{Refused, Quiet, Recovered, Passed, Unanswered, TokenLost, Held}
use Rattle.table.specs.Folds.{seek}
use Rattle.table.specs.Network.{row_limit, rows, phase, holder, LOST, regs_at, on_line_at, shape}
use Rattle.line.specs.Step.{step, answer_value}
use Rattle.desk.specs.declared.laps.Taker.{Taker}
use Rattle.desk.specs.declared.laps.Walked as code

-- "Here n counts the nodes on line": of the first k rows
unfoldable pub online : List ℕ → ℕ → ℕ
online net zero = 0
online net (suc k) = pick (on_line_at net k) (suc (online net k)) (online net k)

abbrev pub nodes : List ℕ → ℕ
nodes net = online net (rows net)

-- ---- "runs fault-free steps": what k of them answer, and the network after them
unfoldable pub after : ℕ → List ℕ → List ℕ
after zero net = net
after (suc k) net = after k (step net 0).after

unfoldable pub answers : ℕ → List ℕ → List Answer
answers zero net = []
answers (suc k) net = (step net 0).answer ∷ answers k (step net 0).after

-- the answers that tell of an invitation, and those that tell of one that was taken
abbrev pub invitation : Answer → Bool
invitation (Refused n) = false
invitation Quiet = false
invitation (Recovered r) = false
invitation (Passed r) = true
invitation (Unanswered i) = true
invitation TokenLost = false
invitation (Held o) = false

abbrev pub passed : Answer → Bool
passed (Refused n) = false
passed Quiet = false
passed (Recovered r) = false
passed (Passed r) = true
passed (Unanswered i) = false
passed TokenLost = false
passed (Held o) = false

unfoldable pub invitations : List Answer → ℕ
invitations [] = 0
invitations (a ∷ l) = pick (invitation a) (suc (invitations l)) (invitations l)

-- "one entry each: node ID, row, invitations since the holder before", of which c were sent before these answers
abbrev pub entry : List ℕ → ℕ → ℕ → Taker
entry net r c = record { id = (regs_at net r).id; row = r; invitations = suc c }

-- an entry that nobody has taken, and a list of them
abbrev pub no_taker : Taker
no_taker = record { id = 0; row = 0; invitations = 0 }

abbrev pub nobody : List Taker
nobody = replicate row_limit no_taker

unfoldable pub takers : List ℕ → ℕ → List Answer → List Taker
takers net c [] = []
takers net c (a ∷ l) = pick (passed a) (entry net (answer_value a) c ∷ takers net 0 l) (takers net (pick (invitation a) (suc c) c) l)

-- ---- "until the first holder has the token again": the row that holds after the recovery is passed the token
abbrev pub first_holder : List ℕ → ℕ
first_holder net = holder (after 1 net)

-- step k, counted from 0, passes the token back
unfoldable pub back : List ℕ → ℕ → Bool
back net k = passed (step (after k net) 0).answer && eqb (answer_value (step (after k net) 0).answer) (first_holder net)

-- the steps up to and with the first that does; it is among the first 256 + 2n
unfoldable pub lap_steps : List ℕ → ℕ
lap_steps net = suc (seek (back net) (256 + 2 * nodes net))

-- ---- the call
-- "1 SHAPE", "7 BUSY: lap outside LOST", "12 ALONE: lap with fewer than two on line", "13 ROOM: lent list shorter than n on line"
unfoldable pub lap_refusals : List ℕ → ℕ → List Refusal
lap_refusals net room =
    SHAPE when not (shape net)
    ∷ BUSY when not (eqb (phase net) LOST)
    ∷ ALONE when ltb (nodes net) 2
    ∷ ROOM when ltb room (nodes net) ∷ []

unfoldable pub lap_number : List ℕ → ℕ → ℕ
lap_number net room = told (lap_refusals net room)

abbrev pub runs : List ℕ → ℕ → Bool
runs net room = eqb (lap_number net room) 0

-- what the call tells: its number, and the total
pub record Lapped : Type 0 where
  pub number : ℕ
  pub total : ℕ

abbrev pub lapping : Result ℕ kinds.Refusal → Lapped
lapping (Ok total) = record { number = DONE; total = total }
lapping (Err e) = record { number = number_of e; total = 0 }

-- "It answers the total"; "a refusal returns 0 .. beside its number"
unfoldable pub lapped : List ℕ → ℕ → Lapped
lapped net room = record { number = lap_number net room; total = pick (runs net room) (invitations (answers (lap_steps net) net)) 0 }

unfoldable pub net_after_lap : List ℕ → ℕ → List ℕ
net_after_lap net room = pick (runs net room) (after (lap_steps net) net) net

-- the entries of a lap; "entries past n stay"
unfoldable pub lap_takers : List ℕ → ℕ → List Taker
lap_takers net room = pick (runs net room) (takers net 0 (answers (lap_steps net) net)) []

unfoldable pub list_after_lap : List ℕ → List Taker → List Taker
list_after_lap net list = lap_takers net (length list) ++ drop (length (lap_takers net (length list))) list

-- of a lap that was walked: how many takers, the list, and the total; a refusal has none
abbrev pub walked_count : Result code.Walked kinds.Refusal → ℕ
walked_count (Ok w) = w.n
walked_count (Err e) = 0

abbrev pub walked_list : Result code.Walked kinds.Refusal → List Taker
walked_list (Ok w) = w.list
walked_list (Err e) = nobody

abbrev pub walked_total : Result code.Walked kinds.Refusal → Result ℕ kinds.Refusal
walked_total (Ok w) = Ok w.total
walked_total (Err e) = Err e

-- what is handed back where no list is lent: how many takers there are, the list, in which they come first and nobody has the rest, the answer, and the network
abbrev pub Walks : List ℕ → ℕ → ℕ → List Taker → Lapped → List ℕ → Type 0
Walks net room n list done new =
    (n ≤ row_limit) × (n ≤ room) × (take n list ≡ lap_takers net room) × (drop n list ≡ drop n nobody) × (done ≡ lapped net room) × (new ≡ net_after_lap net room)
