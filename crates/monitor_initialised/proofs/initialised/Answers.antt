-- `monitor_initialised::initialised` meets its contract: one arm for each area. Assumes nothing.
use Rattle.std.proofs.Common.{sym}
use Rattle.map.specs.FormMap.{under}
use Rattle.plain.specs.Call.{initialised}
use Rattle.shadows.specs.Shadows.{Shadows, lengths_fit}
use Rattle.monitor_base.proofs.CallLaws.{early-good}
use Rattle.monitor_base.proofs.LocatingLaws.{heap-there, stack-there}
use Rattle.monitor_read_laws.proofs.AnswerLaws.{answers, refuses}
use Rattle.monitor_read_laws.proofs.RangingLaws.{initialised-none, initialised-heap, initialised-stack, initialised-out}
use Rattle.monitor_initialised.proofs.initialised.Goals as goal

pub returns-in-Err : goal.returns-in-Err
unfolding lengths_fit
returns-in-Err c =
    let s : Shadows = (c.args.heap.now, (c.args.primary.now, c.args.secondary.now)) in
    refuses (under c.args.form c.args.map) (initialised c.args.a.0 c.args.n) s c.refusal.result _ c.refusal.ensures
    c.in-Err.ensures.0 c.in-Err.ensures.1

pub returns-then-n-eq0 : goal.returns-then-n-eq0
unfolding lengths_fit
returns-then-n-eq0 c =
    let s : Shadows = (c.args.heap.now, (c.args.primary.now, c.args.secondary.now)) in
    let m = under c.args.form c.args.map in
    let g = early-good m s (sym c.in_default.ensures) in
    let r = c.refusal-then-n-eq0 in
    answers m (initialised c.args.a.0 c.args.n) s r.result _ r.ensures (initialised-none m s g.0 g.1 c.args.a.0 c.args.n c.if-n-eq0.true)

pub written_heap-requires : goal.written_heap-requires
unfolding lengths_fit
written_heap-requires c =
    let s : Shadows = (c.args.heap.now, (c.args.primary.now, c.args.secondary.now)) in
    let m = under c.args.form c.args.map in
    let g = early-good m s (sym c.in_default.ensures) in
    let h = rw c.in-Heap.is at c.locate.ensures in
    heap-there m s g.0 g.1 c.args.a.0 _ h.0 h.1

pub written_stack-requires : goal.written_stack-requires
unfolding lengths_fit
written_stack-requires c =
    let s : Shadows = (c.args.heap.now, (c.args.primary.now, c.args.secondary.now)) in
    let m = under c.args.form c.args.map in
    let g = early-good m s (sym c.in_default.ensures) in
    let h = rw c.in-Stack.is at c.locate.ensures in
    stack-there m s g.0 g.1 c.args.a.0 _ h.0 h.1

pub returns-in-Heap : goal.returns-in-Heap
unfolding lengths_fit
returns-in-Heap c =
    let s : Shadows = (c.args.heap.now, (c.args.primary.now, c.args.secondary.now)) in
    let m = under c.args.form c.args.map in
    let g = early-good m s (sym c.in_default.ensures) in
    let h = rw c.in-Heap.is at c.locate.ensures in
    answers m (initialised c.args.a.0 c.args.n) s c.written_heap.result _ c.written_heap.ensures
    (initialised-heap m s g.0 g.1 c.args.a.0 c.args.n _ c.if-n-eq0.false h.0 h.1)

pub returns-in-Stack : goal.returns-in-Stack
unfolding lengths_fit
returns-in-Stack c =
    let s : Shadows = (c.args.heap.now, (c.args.primary.now, c.args.secondary.now)) in
    let m = under c.args.form c.args.map in
    let g = early-good m s (sym c.in_default.ensures) in
    let h = rw c.in-Stack.is at c.locate.ensures in
    answers m (initialised c.args.a.0 c.args.n) s c.written_stack.result _ c.written_stack.ensures
    (initialised-stack m s g.0 g.1 c.args.a.0 c.args.n _ c.if-n-eq0.false h.0 h.1)

pub returns-in-Outside : goal.returns-in-Outside
unfolding lengths_fit
returns-in-Outside c =
    let s : Shadows = (c.args.heap.now, (c.args.primary.now, c.args.secondary.now)) in
    let m = under c.args.form c.args.map in
    let g = early-good m s (sym c.in_default.ensures) in
    answers m (initialised c.args.a.0 c.args.n) s c.yes_no.result _ c.yes_no.ensures
    (initialised-out m s g.0 g.1 c.args.a.0 c.args.n c.if-n-eq0.false (rw c.in-Outside.is at c.locate.ensures))
