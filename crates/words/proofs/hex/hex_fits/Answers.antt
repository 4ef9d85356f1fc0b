use Rattle.std.proofs.Common.{is_some, sym, ◌∙◌, rules, tests}
use Rattle.std.proofs.lemmas.Iterator.{YieldsList-from_slice}
use Rattle.std.proofs.lemmas.Iterator.Search.{all_from_yields_List}
use Rattle.words.specs.Hex.{nibble}
use Rattle.words.proofs.Pairs.{fits_even}
use Rattle.words.proofs.hex.hex_fits.Goals as goal

pub returns-then-word-eq0 : goal.returns-then-word-eq0
returns-then-word-eq0 c =
    all_from_yields_List (λ b. is_some (nibble b)) _ _ _ c.all.ensures.ran (YieldsList-from_slice _ cc) (λ x b q k. search (rules, tests))
    ∙ sym (fits_even _ c.if-word-eq0.true)
