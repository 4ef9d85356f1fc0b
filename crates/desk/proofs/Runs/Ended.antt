-- Where the token is back: the last of the answers passes it to the row, and none before it does.
-- Assumes nothing.
use mathlib.Core.Path.{◌≡◌, refl, sym, ap, ◌∙◌}
use mathlib.Core.Bool.{true, false≢true}
use mathlib.Core.List.{List, [], ◌∷◌, map}
use Prim.Native.Nat.{ℕ, ◌<◌}
use borrow.Author.Tests.{eq-eqb, eqb-true}
use Rattle.line.specs.Answers.{Answer}
use Rattle.line.specs.Answers.{Refused, Quiet, Recovered, Passed, Unanswered, TokenLost, Held}
use Rattle.table.specs.Network.{rows, regs_at, on_line_at, shape}
use Rattle.line.specs.Step.{answer_value}
use Rattle.table.proofs.Folds.{clash}
use Rattle.table.proofs.Shaped.Shapes.{shape_ids}
use Rattle.desk.specs.Lap.{passed}
use Rattle.desk.specs.Demand.{Until}
use Rattle.desk.proofs.ById.FirstLap.{other, Closes}
use Rattle.desk.proofs.Runs.Steps.{seen}
use Rattle.desk.proofs.Runs.InRows.{ToNodes}

-- the row q is on line with the ID h
module _ (net : List ℕ) (s : shape net ≡ true) (h q : ℕ) (low : q < rows net) (on : on_line_at net q ≡ true) (i : (regs_at net q).id ≡ h) where
  to_row : (a : Answer) → (passed a ≡ true → (answer_value a < rows net) × (on_line_at net (answer_value a) ≡ true)) → other h (seen net a) ≡ true → a ≡ Passed q
  to_row (Refused n) p e = absurd (false≢true e)
  to_row Quiet p e = absurd (false≢true e)
  to_row (Recovered r) p e = absurd (false≢true e)
  to_row (Passed r) p e = let n = p refl in ap Passed (shape_ids net s r q n.0 low n.1 on (eqb-true _ _ e ∙ sym i))
  to_row (Unanswered x) p e = absurd (false≢true e)
  to_row TokenLost p e = absurd (false≢true e)
  to_row (Held o) p e = absurd (false≢true e)

  pub until : (l : List Answer) → ToNodes net l → Closes h (map (seen net) l) → Until (Passed q) l
  unfolding Until Closes
  until [] n c = c
  until (a ∷ []) n c = to_row a n.0 c
  until (a ∷ b ∷ l) n c = (λ e. clash (ap (λ (x : Answer). other h (seen net x)) e ∙ eq-eqb _ _ i) c.0, until (b ∷ l) n.1 c.1)
