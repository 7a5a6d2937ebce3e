-- `monitor_ask::ask` meets its contract. Assumes nothing.
use Rattle.std.proofs.Common.{sym}
use Rattle.map.specs.FormMap.{under}
use Rattle.plain.specs.Call.{ask}
use Rattle.shadows.specs.Shadows.{Shadows, lengths_fit}
use Rattle.monitor_base.proofs.CallLaws.{early-good}
use Rattle.monitor_read_laws.proofs.AnswerLaws.{answers, refuses}
use Rattle.monitor_read_laws.proofs.AskingLaws.{ask-heap, ask-stack, ask_out, there-as, heap-base, stack-base}
use Rattle.monitor_ask.proofs.ask.Goals as goal

pub returns-in-Err : goal.returns-in-Err
unfolding lengths_fit
returns-in-Err c =
    let s : Shadows = (c.args.heap.now, (c.args.primary.now, c.args.secondary.now)) in
    refuses (under c.args.form c.args.map) (ask c.args.a.0) s c.refusal.result _ c.refusal.ensures c.in-Err.ensures.0 c.in-Err.ensures.1

pub read-requires : goal.read-requires
unfolding lengths_fit
read-requires c =
    let s : Shadows = (c.args.heap.now, (c.args.primary.now, c.args.secondary.now)) in
    let m = under c.args.form c.args.map in
    let g = early-good m s (sym c.in_default.ensures) in
    there-as m s g.0 g.1 c.args.a.0 c.locate.result _ c.locate.ensures c.in-Heap.is

pub told-requires : goal.told-requires
unfolding lengths_fit
told-requires c =
    let s : Shadows = (c.args.heap.now, (c.args.primary.now, c.args.secondary.now)) in
    let m = under c.args.form c.args.map in
    let g = early-good m s (sym c.in_default.ensures) in
    heap-base m s g.0 g.1 _ c.read.result c.read.ensures

pub read-requires-in-Stack : goal.read-requires-in-Stack
unfolding lengths_fit
read-requires-in-Stack c =
    let s : Shadows = (c.args.heap.now, (c.args.primary.now, c.args.secondary.now)) in
    let m = under c.args.form c.args.map in
    let g = early-good m s (sym c.in_default.ensures) in
    there-as m s g.0 g.1 c.args.a.0 c.locate.result _ c.locate.ensures c.in-Stack.is

pub told-requires-in-Stack : goal.told-requires-in-Stack
unfolding lengths_fit
told-requires-in-Stack c =
    let s : Shadows = (c.args.heap.now, (c.args.primary.now, c.args.secondary.now)) in
    let m = under c.args.form c.args.map in
    let g = early-good m s (sym c.in_default.ensures) in
    stack-base m s g.0 g.1 _ c.read-in-Stack.result c.read-in-Stack.ensures

pub returns-in-Heap : goal.returns-in-Heap
unfolding lengths_fit
returns-in-Heap c =
    let s : Shadows = (c.args.heap.now, (c.args.primary.now, c.args.secondary.now)) in
    let m = under c.args.form c.args.map in
    let g = early-good m s (sym c.in_default.ensures) in
    answers m (ask c.args.a.0) s c.told.result _ c.told.ensures
    (ask-heap m s g.0 g.1 c.args.a.0 _ (rw c.in-Heap.is at c.locate.ensures) _ c.read.ensures)

pub returns-in-Stack : goal.returns-in-Stack
unfolding lengths_fit
returns-in-Stack c =
    let s : Shadows = (c.args.heap.now, (c.args.primary.now, c.args.secondary.now)) in
    let m = under c.args.form c.args.map in
    let g = early-good m s (sym c.in_default.ensures) in
    answers m (ask c.args.a.0) s c.told-in-Stack.result _ c.told-in-Stack.ensures
    (ask-stack m s g.0 g.1 c.args.a.0 _ (rw c.in-Stack.is at c.locate.ensures) _ c.read-in-Stack.ensures)

pub returns-in-Outside : goal.returns-in-Outside
unfolding lengths_fit
returns-in-Outside c =
    let s : Shadows = (c.args.heap.now, (c.args.primary.now, c.args.secondary.now)) in
    let m = under c.args.form c.args.map in
    let g = early-good m s (sym c.in_default.ensures) in
    answers m (ask c.args.a.0) s c.refusal-in-Outside.result _ c.refusal-in-Outside.ensures
    (ask_out m s g.0 g.1 c.args.a.0 (rw c.in-Outside.is at c.locate.ensures))
