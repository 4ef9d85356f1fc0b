use Rattle.std.proofs.Common.{ap, ◌∙◌, arith, rules}
use Rattle.std.specs.Int.{from_bool}
use Rattle.table.proofs.Shaped.Alike.{bytes_rams}
use Rattle.table.specs.Network.{Bytes}
use Rattle.desk.proofs.Lapping.LapLoop.{starts, ends, matched, unmatched, going_shape, going_room, turn_small, turn_other, turn_part, turn_home, turn_away}
use Rattle.desk.proofs.laps.run.Goals as goal

pub loop-row-init : goal.loop-row-init
loop-row-init c =
    let s = c.requires.shaped in
    let bytes : Bytes c.args.net.now = search rules in
    starts _ s (bytes_rams _ s bytes) c.requires.lost c.requires.two _ _ (c.step_on.ensures.answer, c.step_on.ensures.bytes) _ c.value-first.ensures
    _ c.nobody.ensures

pub step_on-answer-requires : goal.step_on-answer-requires
step_on-answer-requires c = going_shape _ _ _ _ _ _ _ c.loop-row.invariant

pub overflow_add-since : goal.overflow_add-since
overflow_add-since c =
    let r =
    turn_small _ _ _ _ _ _ _ c.loop-row.invariant _ _
    (c.step_on-answer.ensures.answer, c.step_on-answer.ensures.bytes) _ (c.from-sent.ensures ∙ ap from_bool c.invitation.ensures) in
    omega (arith, r.0, r.1)

pub overflow_add-walk : goal.overflow_add-walk
overflow_add-walk c =
    let r =
    turn_small _ _ _ _ _ _ _ c.loop-row.invariant _ _
    (c.step_on-answer.ensures.answer, c.step_on-answer.ensures.bytes) _ (c.from-sent.ensures ∙ ap from_bool c.invitation.ensures) in
    omega (arith, r.0, r.1)

pub regs_at-requires : goal.regs_at-requires
regs_at-requires c =
    let m = matched _ _ c.in-Passed.is in
    (turn_part _ _ _ _ _ _ _ c.loop-row.invariant _ _
    (c.step_on-answer.ensures.answer, c.step_on-answer.ensures.bytes) _ (c.from-sent.ensures ∙ ap from_bool c.invitation.ensures) m.0 _ m.1).0

pub overflow_cast-walk : goal.overflow_cast-walk
overflow_cast-walk c =
    let m = matched _ _ c.in-Passed.is in
    let r =
    turn_part _ _ _ _ _ _ _ c.loop-row.invariant _ _
    (c.step_on-answer.ensures.answer, c.step_on-answer.ensures.bytes) _ (c.from-sent.ensures ∙ ap from_bool c.invitation.ensures) m.0 _ m.1 in
    omega (arith, r.1)

pub bounds-walk-walk : goal.bounds-walk-walk
bounds-walk-walk c = going_room _ _ _ _ _ _ _ c.loop-row.invariant

pub returns-then-row-first : goal.returns-then-row-first
returns-then-row-first c =
    let m = matched _ _ c.in-Passed.is in
    let s = c.requires.shaped in
    let bytes : Bytes c.args.net.now = search rules in
    let d =
    ends _ s (bytes_rams _ s bytes) c.requires.lost c.requires.two _ _ (c.step_on.ensures.answer, c.step_on.ensures.bytes) _ c.value-first.ensures _ _ _ _ _
    (turn_home _ _ _ _ _ _ _ c.loop-row.invariant _ _
    (c.step_on-answer.ensures.answer, c.step_on-answer.ensures.bytes) _ (c.from-sent.ensures ∙ ap from_bool c.invitation.ensures) m.0 _ m.1 _ c.regs_at.ensures c.if-row-first.true) in
    record { total = d.answer; count = d.count; list = d.listed; bytes = d.bytes; rest = d.rest }

pub loop-row-smaller-else-row-first : goal.loop-row-smaller-else-row-first
loop-row-smaller-else-row-first c =
    let m = matched _ _ c.in-Passed.is in
    (turn_away _ _ _ _ _ _ _ c.loop-row.invariant _ _
    (c.step_on-answer.ensures.answer, c.step_on-answer.ensures.bytes) _ (c.from-sent.ensures ∙ ap from_bool c.invitation.ensures) m.0 _ m.1 _ c.regs_at.ensures c.if-row-first.false).less

pub loop-row-preserved-else-row-first : goal.loop-row-preserved-else-row-first
loop-row-preserved-else-row-first c =
    let m = matched _ _ c.in-Passed.is in
    (turn_away _ _ _ _ _ _ _ c.loop-row.invariant _ _
    (c.step_on-answer.ensures.answer, c.step_on-answer.ensures.bytes) _ (c.from-sent.ensures ∙ ap from_bool c.invitation.ensures) m.0 _ m.1 _ c.regs_at.ensures c.if-row-first.false).going

pub loop-row-smaller : goal.loop-row-smaller
loop-row-smaller c =
    (turn_other _ _ _ _ _ _ _ c.loop-row.invariant _ _
    (c.step_on-answer.ensures.answer, c.step_on-answer.ensures.bytes) _ (c.from-sent.ensures ∙ ap from_bool c.invitation.ensures) (unmatched _ c.in_default.not-Passed)).less

pub loop-row-preserved : goal.loop-row-preserved
loop-row-preserved c =
    (turn_other _ _ _ _ _ _ _ c.loop-row.invariant _ _
    (c.step_on-answer.ensures.answer, c.step_on-answer.ensures.bytes) _ (c.from-sent.ensures ∙ ap from_bool c.invitation.ensures) (unmatched _ c.in_default.not-Passed)).going
