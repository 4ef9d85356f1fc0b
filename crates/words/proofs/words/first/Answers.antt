use Rattle.std.proofs.Common.{◌≡◌, ◌≢◌, sym, ◌∙◌, rules, tests}
use Rattle.std.proofs.lemmas.Iterator.{IsFirst-from_position, YieldsList-from_slice}
use Rattle.words.proofs.Lines.{first_place}
use Rattle.words.proofs.words.first.Goals as goal

pub returns-clause-value : goal.returns-clause-value
returns-clause-value c =
    let place =
    IsFirst-from_position _ _ _ (λ b. b ≡ c.args.stop) (λ b. b ≢ c.args.stop) c.position.ensures.ran (YieldsList-from_slice c.args.text.now cc)
    (λ x q k. search (rules, tests)) (λ x q k. search (rules, tests)) in
    c.unwrap_or.ensures ∙ sym (first_place c.args.stop c.args.text.now _ place)
