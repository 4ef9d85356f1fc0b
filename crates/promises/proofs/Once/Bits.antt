-- No second outcome fits a contract of `bits`.
-- Assumes nothing.
use mathlib.Core.Path.{refl}
use Rattle.promises.specs.OfBits.{OfBits}
use Rattle.promises.proofs.Once.Same.{told}

pub bits_once : OfBits
bits_once = record {
  choose = λ _ _ _ _ _. (λ _ _ l. l, λ _ _ _ _ _ _. told refl);
}
