-- `monitor_valid::valid_heap` meets its contract: one arm for each area of the other byte. Assumes nothing.
use Rattle.map.specs.FormMap.{under}
use Rattle.shadows.specs.Shadows.{Shadows}
use Rattle.monitor_base.proofs.LocatingLaws.{heap-lengths, heap-there, stack-there}
use Rattle.monitor_read_laws.proofs.RangingLaws.{valid-heap-heap, valid-heap-stack, valid-out}
use Rattle.monitor_valid.proofs.valid_heap.Goals as goal

pub read-first-requires : goal.read-first-requires
read-first-requires c =
    let s : Shadows = (c.args.heap.now, (c.args.primary.now, c.args.secondary.now)) in
    let l = heap-lengths (under c.args.form c.args.map) s c.requires.0 c.requires.1 in
    (c.requires.2, l.1, l.2)

pub read-requires : goal.read-requires
read-requires c =
    let s : Shadows = (c.args.heap.now, (c.args.primary.now, c.args.secondary.now)) in
    let h = rw c.in-Heap.is at c.locate.ensures in
    heap-there (under c.args.form c.args.map) s c.requires.0 c.requires.1 c.args.from.0 _ h.0 h.1

pub read-requires-in-Stack : goal.read-requires-in-Stack
read-requires-in-Stack c =
    let s : Shadows = (c.args.heap.now, (c.args.primary.now, c.args.secondary.now)) in
    let h = rw c.in-Stack.is at c.locate.ensures in
    stack-there (under c.args.form c.args.map) s c.requires.0 c.requires.1 c.args.from.0 _ h.0 h.1

pub returns-in-Heap : goal.returns-in-Heap
returns-in-Heap c w =
    let s : Shadows = (c.args.heap.now, (c.args.primary.now, c.args.secondary.now)) in
    let h = rw c.in-Heap.is at c.locate.ensures in
    valid-heap-heap (under c.args.form c.args.map) s c.requires.0 c.requires.1 w c.args.n _ _ c.args.from.0 c.in-Heap.q.0 _
    c.args.p.0 c.read-first.ensures h.0 h.1 c.read.ensures c.judged.ensures

pub returns-in-Stack : goal.returns-in-Stack
returns-in-Stack c w =
    let s : Shadows = (c.args.heap.now, (c.args.primary.now, c.args.secondary.now)) in
    let h = rw c.in-Stack.is at c.locate.ensures in
    valid-heap-stack (under c.args.form c.args.map) s c.requires.0 c.requires.1 w c.args.n _ _ c.args.from.0 c.in-Stack.q.0 _
    c.args.p.0 c.read-first.ensures h.0 h.1 c.read-in-Stack.ensures c.apart.ensures

pub returns-in-Outside : goal.returns-in-Outside
returns-in-Outside c w =
    let s : Shadows = (c.args.heap.now, (c.args.primary.now, c.args.secondary.now)) in
    let h = rw c.in-Outside.is at c.locate.ensures in
    valid-out (under c.args.form c.args.map) s c.requires.0 c.requires.1 w c.args.n c.args.map.heap_start _ _ c.args.from.0 _
    c.read-first.ensures h c.apart-in-Outside.ensures
