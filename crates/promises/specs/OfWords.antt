-- "No second outcome fits", over the contracts of `words`.
-- Assumes nothing.
use Rattle.words.specs.contracts as contracts
use Rattle.words.proofs.words as words
use Rattle.words.proofs.numbers as numbers
use Rattle.words.proofs.hex as hex
use Rattle.promises.specs.Once.{Fixed, OnceBy, Once, SamePart}

pub record OfWords : Type 0 where
  pub part : OnceBy contracts.words.part.ended (λ κs. SamePart) words.part.Reads.Asked words.part.Reads.Learnt
  pub word : OnceBy contracts.words.word.ended (λ κs. SamePart) words.word.Reads.Asked words.word.Reads.Learnt
  pub row : OnceBy contracts.words.row.ended (λ κs. SamePart) words.row.Reads.Asked words.row.Reads.Learnt
  pub count : Once contracts.words.count.ended words.count.Reads.Asked words.count.Reads.Learnt
  pub spaced : Once contracts.words.spaced.ended words.spaced.Reads.Asked words.spaced.Reads.Learnt
  pub number_at : Once contracts.numbers.number_at.ended numbers.number_at.Reads.Asked numbers.number_at.Reads.Learnt
  pub hex_fits : Once contracts.hex.hex_fits.ended hex.hex_fits.Reads.Asked hex.hex_fits.Reads.Learnt
  pub unhex : Fixed contracts.hex.unhex.ended hex.unhex.Reads.Learnt
