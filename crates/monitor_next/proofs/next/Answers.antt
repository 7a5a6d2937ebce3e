-- `monitor_next::next` meets its contract. Assumes nothing.
use Rattle.std.proofs.Common.{sym}
use Rattle.map.specs.FormMap.{under}
use Rattle.plain.specs.Call.{next}
use Rattle.shadows.specs.Shadows.{Shadows, lengths_fit}
use Rattle.monitor_base.proofs.CallLaws.{early-good}
use Rattle.monitor_read_laws.proofs.AnswerLaws.{answers, refuses}
use Rattle.monitor_next.proofs.SearchingLaws.{next-search}
use Rattle.monitor_next.proofs.next.Goals as goal

pub returns-in-Err : goal.returns-in-Err
unfolding lengths_fit
returns-in-Err c =
    let s : Shadows = (c.args.heap.now, (c.args.primary.now, c.args.secondary.now)) in
    refuses (under c.args.form c.args.map) (next c.args.a.0) s c.refusal.result _ c.refusal.ensures c.in-Err.ensures.0 c.in-Err.ensures.1

pub climb-requires : goal.climb-requires
unfolding lengths_fit
climb-requires c =
    let s : Shadows = (c.args.heap.now, (c.args.primary.now, c.args.secondary.now)) in
    early-good (under c.args.form c.args.map) s (sym c.in_default.ensures)

pub returns : goal.returns
unfolding lengths_fit
returns c =
    let s : Shadows = (c.args.heap.now, (c.args.primary.now, c.args.secondary.now)) in
    let m = under c.args.form c.args.map in
    let g = early-good m s (sym c.in_default.ensures) in
    answers m (next c.args.a.0) s c.answered.result _ c.answered.ensures (next-search m s g.0 g.1 c.args.a.0 _ c.climb.ensures)
