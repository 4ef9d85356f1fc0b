-- No second outcome fits a contract of `commands`.
-- Assumes nothing.
use mathlib.Core.Path.{refl}
use Rattle.promises.specs.OfCommands.{OfCommands}
use Rattle.promises.proofs.Once.Same.{told}

pub commands_once : OfCommands
commands_once = record {
  decode = (λ _ _. tt, λ _ _ _ _ _ _. told refl);
  illegal = (λ _ _. tt, λ _ _ _ _ _ _. told refl);
}
