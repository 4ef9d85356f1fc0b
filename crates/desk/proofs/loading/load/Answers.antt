use Rattle.std.proofs.Common.{refl, sym, ◌∙◌, arith}
use Rattle.orders.proofs.Forms.Records.{record_within}
use Rattle.orders.proofs.Checks.Told.{verdict_none}
use Rattle.desk.proofs.Loads.LoadSteps.{rows_none, rows_more, handed, not_told, number_not_told, is_unfit, is_refused, at_row, is_loaded}
use Rattle.desk.proofs.loading.load.Goals as goal

pub returns-in_err-check : goal.returns-in_err-check
returns-in_err-check c =
    let p = is_unfit c.args.order.now c.args.net.now _ c.in_err-check.ensures (not_told c.in_err-check.field-0.0) in
    record { told = handed _ _ c.from_residual.ensures.1 ∙ p.0; bytes = p.1 }

pub returns-in_err-fresh : goal.returns-in_err-fresh
returns-in_err-fresh c =
    let e = c.in_err-fresh.field-0.0 in
    let p = is_refused c.args.order.now c.args.net.now _ c.in_ok-check.ensures refl _ c.records-n.ensures
    _ c.in_err-fresh.ensures.number _ c.in_err-fresh.ensures.bytes (number_not_told e) in
    record { told = verdict_none _ e c.from_residual-in_err-fresh.ensures.1 ∙ p.0; bytes = p.1 }

pub loop-k-init : goal.loop-k-init
loop-k-init c = sym (rows_none _ _)

pub id_at-requires : goal.id_at-requires
id_at-requires c = record_within c.args.order.now c.loop-k.k (omega (arith, c.records-n.ensures))

pub flags_at-requires : goal.flags_at-requires
flags_at-requires c = record_within c.args.order.now c.loop-k.k (omega (arith, c.records-n.ensures))

pub load_row-requires : goal.load_row-requires
load_row-requires c =
    let p = at_row c.args.order.now c.args.net.now _ c.in_ok-check.ensures refl _ c.records-n.ensures
    _ c.in_ok-fresh.ensures.number _ c.in_ok-fresh.ensures.bytes refl _ c.loop-k-test.true _ c.loop-k.invariant in
    record { shaped = p.0; row = p.1 }

pub loop-k-preserved : goal.loop-k-preserved
loop-k-preserved c = rows_more _ _ _ _ c.loop-k.invariant _ c.id_at.ensures _ c.flags_at.ensures _ c.load_row.ensures

pub returns : goal.returns
returns c =
    let p = is_loaded c.args.order.now c.args.net.now _ c.in_ok-check.ensures refl _ c.records-n.ensures
    _ c.in_ok-fresh.ensures.number _ c.in_ok-fresh.ensures.bytes refl _ (omega arith) _ c.loop-k.invariant in
    record { told = p.0; bytes = p.1 }
