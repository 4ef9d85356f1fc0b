-- The row that an entry of a lap names is on line with the entry's ID.
-- Assumes nothing.
use mathlib.Core.Path.{◌≡◌, refl}
use mathlib.Core.Bool.{true}
use mathlib.Core.List.{List, [], ◌∷◌}
use Prim.Native.Nat.{ℕ, suc, ◌<◌}
use Rattle.line.specs.Answers.{Answer}
use Rattle.line.specs.Answers.{Refused, Quiet, Recovered, Passed, Unanswered, TokenLost, Held}
use Rattle.table.specs.Network.{rows, on_line_at}
use Rattle.line.specs.Step.{answer_value}
use Rattle.table.proofs.Online.Nodes.{node_of_lem}
use Rattle.desk.specs.Lap.{passed, takers}
use Rattle.desk.specs.Demand.{ByNodes}

-- each of these answers that tells of an invitation taken names a row on line
abbrev pub ToNodes : List ℕ → List Answer → Type 0
ToNodes net [] = Unit {0}
ToNodes net (a ∷ l) = (passed a ≡ true → (answer_value a < rows net) × (on_line_at net (answer_value a) ≡ true)) × ToNodes net l

pub by_nodes : (net : List ℕ) (l : List Answer) (c : ℕ) → ToNodes net l → ByNodes net (takers net c l)
unfolding takers ByNodes
by_nodes net [] c p = tt
by_nodes net (Refused n ∷ l) c p = by_nodes net l c p.1
by_nodes net (Quiet ∷ l) c p = by_nodes net l c p.1
by_nodes net (Recovered r ∷ l) c p = by_nodes net l c p.1
by_nodes net (Passed r ∷ l) c p = let q = p.0 refl in (q.0, (node_of_lem net r _ q.1 refl, by_nodes net l 0 p.1))
by_nodes net (Unanswered i ∷ l) c p = by_nodes net l (suc c) p.1
by_nodes net (TokenLost ∷ l) c p = by_nodes net l c p.1
by_nodes net (Held o ∷ l) c p = by_nodes net l c p.1
