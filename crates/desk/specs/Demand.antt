-- Demand 3, the lap, over the calls that a host makes, in whatever order they come.
-- Assumes nothing.
use Rattle.std.specs.Prelude.{◌≡◌, true, List, [], ◌∷◌, map, ℕ, zero, suc, ◌+◌, ◌*◌, ◌≤◌, ◌<◌, eqb, length}
use Rattle.bits.specs.Words.{pick}
use Rattle.line.specs.Answers.{Answer}
use Rattle.line.specs.Answers.{Recovered, Passed}
use Rattle.table.specs.Folds.{some}
use Rattle.table.specs.Network.{Bytes, rows, phase, holder, LOST, TAKEN, is_node, shape, SameNodes}
use Rattle.line.specs.Step.{highest, answer_number}
use Rattle.desk.specs.declared.laps.Taker.{Taker}
use Rattle.desk.specs.Lap.{nodes, invitations, takers}
use Rattle.desk.specs.Host.{Call, At, Read, Write, Reset, Timer, Interrupt, Data, DataNumber, Step, Lap, Reply, Number, Register, Line, Stretch, Stepped, Takers, replied, called, table, reply_number}

-- "with no line fault, timer expiry, loading or fresh call": what may come between, where it is not refused
abbrev pub Between : Call → Type 0
Between (At k (Read g)) = Unit {0}
Between (At k (Write g v _)) = Unit {0}
Between (At k Reset) = Unit {0}
Between (At k Timer) = ⊥
Between (At k Interrupt) = Unit {0}
Between (At k (Data p)) = Unit {0}
Between (At k (DataNumber p)) = Unit {0}
Between (Step fault) = fault ≡ 0
Between (Lap room) = ⊥

-- "the same nodes on line throughout": after each call the rows on line are those of the start, each with its ID
unfoldable pub Throughout : List ℕ → List Call → List ℕ → Type 0
Throughout start [] net = Unit {0}
Throughout start (c ∷ l) net = (reply_number (replied c net) ≡ 0 → Between c) × (SameNodes start (called c net) × Throughout start l (called c net))

-- what the steps answer that are not refused, and how many they are
abbrev pub with_step : Reply → List Answer → List Answer
with_step (Number n) l = l
with_step (Register r) l = l
with_step (Line i) l = l
with_step (Stretch d s) l = l
with_step (Stepped a) l = pick (eqb (answer_number a) 0) (a ∷ l) l
with_step (Takers d t) l = l

unfoldable pub answers_of : List Call → List ℕ → List Answer
answers_of [] net = []
answers_of (c ∷ l) net = with_step (replied c net) (answers_of l (called c net))

abbrev pub steps : List Call → List ℕ → ℕ
steps l net = length (answers_of l net)

-- the IDs on line, lowest first: among the k IDs from a on
unfoldable pub ids_from : List ℕ → ℕ → ℕ → List ℕ
ids_from net a zero = []
ids_from net a (suc k) = pick (some (is_node net a) (rows net)) (a ∷ ids_from net (suc a) k) (ids_from net (suc a) k)

abbrev pub ids_on_line : List ℕ → List ℕ
ids_on_line net = ids_from net 0 256

-- each entry names a node: a row on line, with the entry's ID
unfoldable pub ByNodes : List ℕ → List Taker → Type 0
ByNodes start [] = Unit {0}
ByNodes start (t ∷ l) = (t.row < rows start) × ((is_node start t.id t.row ≡ true) × ByNodes start l)

-- the first of the answers is a
abbrev pub From : Answer → List Answer → Type 0
From a [] = ⊥
From a (b ∷ l) = b ≡ a

-- the last of the answers is a, and none before it is
unfoldable pub Until : Answer → List Answer → Type 0
Until a [] = ⊥
Until a (b ∷ []) = b ≡ a
Until a (b ∷ c ∷ l) = (b ≡ a → ⊥) × Until a (c ∷ l)

-- a lap of the nodes of `start`: what its steps answered, with i invitations, and the network that it ends with
pub record LapOf (start : List ℕ) (l : List Answer) (i : ℕ) (end : List ℕ) : Type 0 where
  -- the Unanswered and Passed answers
  pub invited : invitations l ≡ i
  -- "each on-line node takes it exactly once, lowest ID first": n in all
  pub taken : map (λ (t : Taker). t.id) (takers start 0 l) ≡ ids_on_line start
  pub count : length (takers start 0 l) ≡ nodes start
  -- "in whichever rows they stand": the row that an entry names carries its ID
  pub in_rows : ByNodes start (takers start 0 l)
  -- "until the token is back with the highest ID": the last answer passes it to that ID's row, and no answer before it does; there it is held
  pub until : Until (Passed (highest start)) l
  pub back : phase end ≡ TAKEN
  pub with : holder end ≡ highest start

-- the first lap, "from recovery": the first answer is that the row of the highest ID holds
pub record FirstLapOf (start : List ℕ) (l : List Answer) (i : ℕ) (end : List ℕ) : Type 0 where
  pub from : From (Recovered (highest start)) l
  pub lap : LapOf start l i end

-- a network that a lap may be run of: of bytes, well formed, in LOST, with two nodes on line or more
pub record Ready (net : List ℕ) : Type 0 where
  pub bytes : Bytes net
  pub fits : shape net ≡ true
  pub lost : phase net ≡ LOST
  pub two : 2 ≤ nodes net

-- "From a well-formed network in LOST with n ≥ 2 nodes on line .. exactly 256 + n invitations from recovery until the token is back with the highest
-- ID .. every later lap takes exactly n": whatever calls come, the first 256 + 2n steps are the first lap, and the 2n after any number m of laps are a lap
abbrev pub Demand3 : Type 0
Demand3 =
    (net : List ℕ) → Ready net → (l : List Call) → Throughout net l net
    → (steps l net ≡ 256 + 2 * nodes net → FirstLapOf net (answers_of l net) (256 + nodes net) (table l net))
    × ((m : ℕ) → steps l net ≡ 256 + 2 * nodes net + m * (2 * nodes net) → (l' : List Call) → Throughout net l' (table l net)
    → steps l' (table l net) ≡ 2 * nodes net → LapOf net (answers_of l' (table l net)) (nodes net) (table l' (table l net)))
