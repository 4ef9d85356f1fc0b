use Rattle.std.proofs.Common.{◌≡◌, ◌+◌, Some, ◌∙◌, sym, arith, rules}
use borrow.Author.Tests.{eqb-false}
use Rattle.table.proofs.Folds.{seek_none}
use Rattle.told.specs.Numbers.{DONE}
use Rattle.told.specs.Refusals.{number, number_of}
use Rattle.told.proofs.Told.Results.{not_done}
use Rattle.orders.specs.Check.{refused}
use Rattle.orders.proofs.Forms.Records.{record_within}
use Rattle.orders.proofs.Checks.Told.{verdict_none, verdict_some, tells_length, sized, tells_bad, tells_good, goes_on}
use Rattle.orders.proofs.check.check.Goals as goal

pub returns-in_err-when : goal.returns-in_err-when
returns-in_err-when c =
    let e = c.in_err-when.field-0.0 in
    verdict_none _ e c.from_residual.ensures.1 ∙ tells_length _ _ (eqb-false _ _ (not_done e)) (search rules)

pub loop-k-init : goal.loop-k-init
loop-k-init c = seek_none (refused c.args.order.now)

pub check_record-requires : goal.check_record-requires
check_record-requires c = record_within _ _ (omega (arith, c.records-k-end.ensures))

pub returns-in_err-map_err : goal.returns-in_err-map_err
returns-in_err-map_err c =
    let b = c.in_err-map_err.field-0.0 in
    let same : (number c.check_record.result ≡ number_of b.refusal) × (b.«record» ≡ Some (c.loop-k.k-counter + 1)) = search rules in
    verdict_some _ b _ _ c.from_residual-in_err-map_err.ensures.1 same.0 same.1
    ∙ tells_bad _ (sized _ (search rules)) _ c.loop-k.invariant (omega (arith, c.records-k-end.ensures)) _ c.check_record.ensures
    (λ z. eqb-false _ _ (not_done b.refusal) (sym same.0 ∙ z))

pub loop-k-preserved : goal.loop-k-preserved
loop-k-preserved c =
    let done : number c.check_record.result ≡ DONE = search rules in
    goes_on _ _ c.loop-k.invariant _ c.check_record.ensures done

pub returns : goal.returns
returns c = tells_good _ (sized _ (search rules)) _ c.loop-k.invariant (omega (arith, c.records-k-end.ensures))
