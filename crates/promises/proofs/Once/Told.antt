-- No second outcome fits a contract of `told`.
-- Assumes nothing.
use mathlib.Core.Path.{refl}
use Rattle.told.proofs.Told.One.{number_one}
use Rattle.promises.specs.OfTold.{OfTold}
use Rattle.promises.proofs.Once.Same.{told, told_by}

pub told_once : OfTold
told_once = record {
  number = (λ _ _. tt, λ _ _ _ _ _ _. told refl);
  name = (λ _ _. tt, λ _ _ _ _ _ _. told refl);
  when = (λ _ _. tt, λ _ _ _ _ _ _. told_by number_one refl);
}
