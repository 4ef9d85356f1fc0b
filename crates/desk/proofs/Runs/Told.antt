-- What a run tells, answer by answer: whether the token was passed to a given node.
-- Assumes nothing.
use mathlib.Core.Path.{◌≡◌, refl, ap, ◌∙◌}
use mathlib.Core.Logic.{⊎_elim}
use mathlib.Core.Bool.{true, false, ◌&&◌}
use mathlib.Core.List.{List, [], ◌∷◌, map}
use Prim.Native.Nat.{ℕ, zero, suc, ◌<◌}
use native.Mathlib.Omega.{arith}
use lib.Dec.{eqb}
use lib.ListN.{length}
use borrow.Author.Tests.{eq-eqb, eqb-true}
use Rattle.std.proofs.lemmas.Bool.{cases_Bool}
use Rattle.line.specs.Answers.{Answer}
use Rattle.line.specs.Answers.{Refused, Quiet, Recovered, Passed, Unanswered, TokenLost, Held}
use Rattle.table.specs.Network.{regs_at}
use Rattle.line.specs.Step.{step, answer_value}
use Rattle.table.proofs.Folds.{clash}
use Rattle.desk.specs.Lap.{after, answers, passed}
use Rattle.desk.proofs.ById.Ring.{Telling, Spoke}
use Rattle.desk.proofs.ById.FirstLap.{other, Never}
use Rattle.desk.proofs.Runs.Steps.{after_none, after_first, answers_first, seen}

abbrev head : List Telling → Telling
head [] = Spoke
head (c ∷ l) = c

abbrev tail : List Telling → List Telling
tail [] = []
tail (c ∷ l) = l

pub never_at : (net : List ℕ) (h : ℕ) (l : List Telling) (now : List ℕ) → Never h l → map (seen net) (answers (length l) now) ≡ l
    → (k : ℕ) → k < length l → other h (seen net (step (after k now) 0).answer) ≡ false
never_at net h [] now n e k lt = absurd (omega arith)
never_at net h (c ∷ l) now n e zero lt = rw (after_none, ap head (rw answers_first at e)) n.0
never_at net h (c ∷ l) now n e (suc k) lt = rw after_first (never_at net h l (step now 0).after n.1 (ap tail (rw answers_first at e)) k (omega arith))

-- the row q has the ID h: an answer that does not tell of h does not pass the token to q
pub not_to : (net : List ℕ) (h q : ℕ) → (regs_at net q).id ≡ h → (a : Answer) → other h (seen net a) ≡ false → (passed a && eqb (answer_value a) q) ≡ false
not_to net h q i (Refused n) e = refl
not_to net h q i Quiet e = refl
not_to net h q i (Recovered r) e = refl
not_to net h q i (Passed r) e =
    ⊎_elim (λ t. absurd (clash (eq-eqb _ _ (ap (λ (k : ℕ). (regs_at net k).id) (eqb-true r q t) ∙ i)) e)) (λ t. t) (cases_Bool (eqb r q))
not_to net h q i (Unanswered x) e = refl
not_to net h q i TokenLost e = refl
not_to net h q i (Held o) e = refl

pub took_passed : (net : List ℕ) (h : ℕ) (a : Answer) → other h (seen net a) ≡ true → passed a ≡ true
took_passed net h (Refused n) e = e
took_passed net h Quiet e = e
took_passed net h (Recovered r) e = e
took_passed net h (Passed r) e = refl
took_passed net h (Unanswered x) e = e
took_passed net h TokenLost e = e
took_passed net h (Held o) e = e
