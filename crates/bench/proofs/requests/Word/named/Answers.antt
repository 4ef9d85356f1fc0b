-- The first of the words that has the name.
use Rattle.std.proofs.Common.{sym, ◌∙◌, rules, tests}
use Rattle.std.specs.Str.{bytes_eq}
use Rattle.std.proofs.lemmas.Iterator.{YieldsList-from_slice}
use Rattle.std.proofs.lemmas.Iterator.Adapters.{option_map_id}
use Rattle.std.proofs.lemmas.Iterator.Consumers.{YieldsList-from_copied}
use Rattle.std.proofs.lemmas.Iterator.Search.{find_from_yields_List}
use Rattle.bench.specs.Requests.{name_of, words, named}
use Rattle.bench.proofs.requests.Word.named.Goals as goal

pub returns : goal.returns
unfolding named
returns c =
    sym (option_map_id c.find.result)
    ∙ find_from_yields_List (λ w. bytes_eq (name_of w) c.args.name.now) _ _ _ c.find.ensures.ran (YieldsList-from_copied (YieldsList-from_slice words cc)) (λ x b q k. search (rules, tests))
