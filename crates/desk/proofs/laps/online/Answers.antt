use Rattle.std.proofs.Common.{◌∙◌, rules, tests, arith}
use Rattle.std.proofs.lemmas.Iterator.Consumers.{YieldsList-at, YieldsList-from_filter, count_from_yields_List}
use Rattle.registers.specs.Fit.{on_line}
use Rattle.card.specs.Row.{regs_of}
use Rattle.table.proofs.Rows.Walk.{walk_yields}
use Rattle.desk.proofs.Runs.Count.{rows_online, online_most}
use Rattle.desk.proofs.laps.online.Goals as goal

pub returns : goal.returns
returns c =
    let net = c.args.net.now in
    let n = c.args.n in
    let e =
    count_from_yields_List c.filter.result c.count.result c.count.ensures.ran
    (YieldsList-from_filter _ (λ r. on_line (regs_of r)) (YieldsList-at (c.filter.ensures.source ∙ c.first.ensures) (walk_yields _ net n)) c.filter.ensures.closure (λ x r q k. search (rules, tests)))
    ∙ rows_online net n in
    (e, omega (arith, e, online_most net n))
