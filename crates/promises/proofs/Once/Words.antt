-- No second outcome fits a contract of `words`.
-- Assumes nothing.
use mathlib.Core.Path.{refl}
use Rattle.words.proofs.Starts.{part_there, row_there}
use Rattle.promises.specs.OfWords.{OfWords}
use Rattle.promises.proofs.Once.Same.{told, right, part}

pub words_once : OfWords
words_once = record {
  part = (λ _ _. tt, λ _ _ x x' _ _. part x x' refl (part_there _ _ _));
  word = (λ _ _. tt, λ _ _ x x' _ _. part x x' refl (part_there _ _ _));
  row = (λ _ _. tt, λ _ _ x x' _ _. part x x' refl (row_there _ _));
  count = (λ _ _. tt, λ _ _ _ _ _ _. told refl);
  spaced = (λ _ _. tt, λ _ _ _ _ _ _. told refl);
  number_at = (λ _ _. tt, λ _ _ _ _ _ _. told refl);
  hex_fits = (λ _ _. tt, λ _ _ _ _ _ _. told refl);
  unhex = λ _ _ _ _ _ _. right refl;
}
