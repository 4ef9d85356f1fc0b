use Rattle.std.proofs.Common.{◌∙◌, rules, tests}
use Rattle.std.proofs.lemmas.Iterator.Consumers.{YieldsList-at}
use Rattle.std.proofs.lemmas.Iterator.Search.{all_from_yields_List}
use Rattle.card.specs.Row.{well_formed}
use Rattle.table.specs.Network.{rows_fit}
use Rattle.table.proofs.Rows.Walk.{walk_yields, all_every}
use Rattle.table.proofs.network.rows_fit.Goals as goal

pub returns : goal.returns
unfolding rows_fit
returns c =
    all_from_yields_List well_formed _ _ _ c.all.ensures.ran (YieldsList-at c.first.ensures (walk_yields _ c.args.net.now c.args.n)) (λ x b q k. search (rules, tests))
    ∙ all_every c.args.net.now well_formed c.args.n
