use Rattle.std.proofs.Common.{ℕ, rules, ◌≡◌, Some, None, Option, tests, ap, ◌∙◌, option_map, eqb, Bor}
use Rattle.std.specs.Option.{MatchOption, IsSomeAnd}
use Rattle.std.proofs.lemmas.Iterator.{YieldsList-from_slice}
use Rattle.std.proofs.lemmas.Iterator.Search.{find_from_yields_List}
use Rattle.commands.specs.Commands.{command_of}
use Rattle.commands.specs.declared.commands.Command.{Command}
use Rattle.commands.proofs.Legal.{table, found}
use Rattle.commands.proofs.commands.decode.Goals as goal

-- the command of the row that was found
taken : (o : Option (Bor (ℕ × Command))) (r : Option Command) (P : Bor (ℕ × Command) → Command → Type 0) → MatchOption o (r ≡ None) (λ x. IsSomeAnd r (P x))
    → ((x : Bor (ℕ × Command)) (k : Command) → P x k → k ≡ x.now.1) → r ≡ option_map (λ (l : ℕ × Command). l.1) (option_map (λ x. x.now) o)
taken None r P h f = h
taken (Some x) (Some k) P h f = ap Some (f x k h)
taken (Some x) None P h f = absurd h

-- src/commands.rt:52:1
pub returns : goal.returns
unfolding command_of
returns c =
    let e = find_from_yields_List (λ (l : ℕ × Command). eqb l.0 c.args.byte) _ _ _ c.find.ensures.ran (YieldsList-from_slice table c.iter.ensures.rest) (λ x b q k. search (rules, tests)) in
    taken c.find.result c.map.result _ c.map.ensures.cases (λ x k p. search rules) ∙ ap (option_map (λ (l : ℕ × Command). l.1)) e ∙ found c.args.byte (search rules)
