-- `monitor_audit::audit` meets its contract. Assumes nothing.
use Rattle.std.proofs.Common.{sym, ◌∙◌}
use Rattle.map.specs.FormMap.{under}
use Rattle.plain.specs.Call.{audit}
use Rattle.shadows.specs.Shadows.{Shadows, lengths_fit}
use Rattle.monitor_read_laws.specs.Audited.{audits_answer}
use Rattle.monitor_base.proofs.CallLaws.{early-good}
use Rattle.monitor_base.proofs.LocatingLaws.{heap-lengths, stack-lengths}
use Rattle.monitor_read_laws.proofs.AnswerLaws.{answers, refuses}
use Rattle.monitor_read_laws.proofs.AuditingLaws.{sums-fit, audits}
use Rattle.monitor_audit.proofs.audit.Goals as goal

pub returns-in-Err : goal.returns-in-Err
unfolding lengths_fit
returns-in-Err c =
    let s : Shadows = (c.args.heap.now, (c.args.primary.now, c.args.secondary.now)) in
    refuses (under c.args.form c.args.map) audit s c.refusal.result _ c.refusal.ensures c.in-Err.ensures.0 c.in-Err.ensures.1

pub audit-requires : goal.audit-requires
unfolding lengths_fit
audit-requires c =
    let s : Shadows = (c.args.heap.now, (c.args.primary.now, c.args.secondary.now)) in
    let m = under c.args.form c.args.map in
    let g = early-good m s (sym c.in_default.ensures) in
    let l = heap-lengths m s g.0 g.1 in
    (l.1, l.2)

pub audit-requires-2 : goal.audit-requires-2
unfolding lengths_fit
audit-requires-2 c =
    let s : Shadows = (c.args.heap.now, (c.args.primary.now, c.args.secondary.now)) in
    let m = under c.args.form c.args.map in
    let g = early-good m s (sym c.in_default.ensures) in
    let l = stack-lengths m s g.0 g.1 in
    (l.0 ∙ sym l.1, l.2)

pub joined-requires : goal.joined-requires
unfolding lengths_fit
joined-requires c =
    let s : Shadows = (c.args.heap.now, (c.args.primary.now, c.args.secondary.now)) in
    let m = under c.args.form c.args.map in
    let g = early-good m s (sym c.in_default.ensures) in
    sums-fit m s g.0 g.1 c.audit.result c.audit-2.result c.audit.ensures c.audit-2.ensures

pub returns : goal.returns
unfolding lengths_fit
returns c =
    let s : Shadows = (c.args.heap.now, (c.args.primary.now, c.args.secondary.now)) in
    let m = under c.args.form c.args.map in
    let g = early-good m s (sym c.in_default.ensures) in
    answers m audit s c.joined.result (audits_answer c.audit.result c.audit-2.result) c.joined.ensures
    (audits m s g.0 g.1 c.audit.result c.audit-2.result c.audit.ensures c.audit-2.ensures)
