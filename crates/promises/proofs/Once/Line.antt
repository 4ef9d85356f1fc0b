-- No second outcome fits a contract of `line`.
-- Assumes nothing.
use mathlib.Core.Path.{refl}
use Rattle.line.proofs.Steps.One.{said_one, answered_one}
use Rattle.promises.specs.OfLine.{OfLine}
use Rattle.promises.proofs.Once.Same.{told, both_by}

pub line_once : OfLine
line_once = record {
  value = (λ _ _. tt, λ _ _ _ _ _ _. told refl);
  step_on = λ _ _ _ _ _ _. both_by said_one refl;
  step = (λ _ _. tt, λ _ _ _ _ _ _. both_by answered_one refl);
}
