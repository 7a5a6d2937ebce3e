-- `monitor_valid::valid` meets its contract: one arm for each area. Assumes nothing.
use Rattle.std.proofs.Common.{sym}
use Rattle.map.specs.FormMap.{under}
use Rattle.plain.specs.Call.{valid}
use Rattle.shadows.specs.Shadows.{Shadows, lengths_fit}
use Rattle.monitor_base.proofs.CallLaws.{early-good}
use Rattle.monitor_base.proofs.LocatingLaws.{heap-there, stack-there, read-heap, read-stack, read_out}
use Rattle.monitor_read_laws.proofs.AnswerLaws.{answers, refuses}
use Rattle.monitor_read_laws.proofs.RangingLaws.{valid-none, valid-alone, valid-reads}
use Rattle.monitor_valid.proofs.valid.Goals as goal

pub returns-in-Err : goal.returns-in-Err
unfolding lengths_fit
returns-in-Err c =
    let s : Shadows = (c.args.heap.now, (c.args.primary.now, c.args.secondary.now)) in
    refuses (under c.args.form c.args.map) (valid c.args.write c.args.a.0 c.args.n c.args.from.0) s c.refusal.result _
    c.refusal.ensures c.in-Err.ensures.0 c.in-Err.ensures.1

pub returns-then-n-eq0 : goal.returns-then-n-eq0
unfolding lengths_fit
returns-then-n-eq0 c =
    let s : Shadows = (c.args.heap.now, (c.args.primary.now, c.args.secondary.now)) in
    let m = under c.args.form c.args.map in
    let g = early-good m s (sym c.in_default.ensures) in
    let r = c.refusal-then-n-eq0 in
    answers m (valid c.args.write c.args.a.0 c.args.n c.args.from.0) s r.result _ r.ensures
    (valid-none m s g.0 g.1 c.args.write c.args.a.0 c.args.n c.args.from.0 c.if-n-eq0.true)

pub alone-requires : goal.alone-requires
unfolding lengths_fit
alone-requires c =
    let s : Shadows = (c.args.heap.now, (c.args.primary.now, c.args.secondary.now)) in
    early-good (under c.args.form c.args.map) s (sym c.in_default.ensures)

pub returns-then-a-from : goal.returns-then-a-from
unfolding lengths_fit
returns-then-a-from c =
    let s : Shadows = (c.args.heap.now, (c.args.primary.now, c.args.secondary.now)) in
    let m = under c.args.form c.args.map in
    let g = early-good m s (sym c.in_default.ensures) in
    answers m (valid c.args.write c.args.a.0 c.args.n c.args.from.0) s c.alone.result _ c.alone.ensures
    (valid-alone m s g.0 g.1 c.args.write c.args.a.0 c.args.n c.args.from.0 c.if-n-eq0.false c.if-a-from.true)

pub valid_heap-requires : goal.valid_heap-requires
unfolding lengths_fit
valid_heap-requires c =
    let s : Shadows = (c.args.heap.now, (c.args.primary.now, c.args.secondary.now)) in
    let m = under c.args.form c.args.map in
    let g = early-good m s (sym c.in_default.ensures) in
    let h = rw c.in-Heap.is at c.locate.ensures in
    (g.0, g.1, (heap-there m s g.0 g.1 c.args.a.0 _ h.0 h.1).0)

pub valid_stack-requires : goal.valid_stack-requires
unfolding lengths_fit
valid_stack-requires c =
    let s : Shadows = (c.args.heap.now, (c.args.primary.now, c.args.secondary.now)) in
    let m = under c.args.form c.args.map in
    let g = early-good m s (sym c.in_default.ensures) in
    let h = rw c.in-Stack.is at c.locate.ensures in
    (g.0, g.1, (stack-there m s g.0 g.1 c.args.a.0 _ h.0 h.1).0)

pub valid_outside-requires : goal.valid_outside-requires
unfolding lengths_fit
valid_outside-requires c =
    let s : Shadows = (c.args.heap.now, (c.args.primary.now, c.args.secondary.now)) in
    early-good (under c.args.form c.args.map) s (sym c.in_default.ensures)

pub returns-in-Heap : goal.returns-in-Heap
unfolding lengths_fit
returns-in-Heap c =
    let s : Shadows = (c.args.heap.now, (c.args.primary.now, c.args.secondary.now)) in
    let m = under c.args.form c.args.map in
    let g = early-good m s (sym c.in_default.ensures) in
    let h = rw c.in-Heap.is at c.locate.ensures in
    answers m (valid c.args.write c.args.a.0 c.args.n c.args.from.0) s c.valid_heap.result _ (c.valid_heap.ensures c.args.write)
    (valid-reads m s g.0 g.1 c.args.write c.args.a.0 c.args.n c.args.from.0 c.if-n-eq0.false _ (read-heap m s g.0 g.1 c.args.a.0 _ h.0 h.1).0)

pub returns-in-Stack : goal.returns-in-Stack
unfolding lengths_fit
returns-in-Stack c =
    let s : Shadows = (c.args.heap.now, (c.args.primary.now, c.args.secondary.now)) in
    let m = under c.args.form c.args.map in
    let g = early-good m s (sym c.in_default.ensures) in
    let h = rw c.in-Stack.is at c.locate.ensures in
    answers m (valid c.args.write c.args.a.0 c.args.n c.args.from.0) s c.valid_stack.result _ c.valid_stack.ensures
    (valid-reads m s g.0 g.1 c.args.write c.args.a.0 c.args.n c.args.from.0 c.if-n-eq0.false _ (read-stack m s g.0 g.1 c.args.a.0 _ h.0 h.1).0)

pub returns-in-Outside : goal.returns-in-Outside
unfolding lengths_fit
returns-in-Outside c =
    let s : Shadows = (c.args.heap.now, (c.args.primary.now, c.args.secondary.now)) in
    let m = under c.args.form c.args.map in
    let g = early-good m s (sym c.in_default.ensures) in
    let h = rw c.in-Outside.is at c.locate.ensures in
    answers m (valid c.args.write c.args.a.0 c.args.n c.args.from.0) s c.valid_outside.result _ (c.valid_outside.ensures c.args.write c.args.n)
    (valid-reads m s g.0 g.1 c.args.write c.args.a.0 c.args.n c.args.from.0 c.if-n-eq0.false _ (read_out m s c.args.a.0 h).0)
