-- `monitor_valid::valid_outside` meets its contract: one arm for each area of the other byte. Assumes nothing.
use Rattle.map.specs.FormMap.{under}
use Rattle.shadows.specs.Shadows.{Shadows}
use Rattle.monitor_base.proofs.LocatingLaws.{heap-there, stack-there}
use Rattle.monitor_read_laws.proofs.RangingLaws.{valid-out-heap, valid-out-stack, valid-out-out}
use Rattle.monitor_valid.proofs.valid_outside.Goals as goal

pub read-requires : goal.read-requires
read-requires c =
    let s : Shadows = (c.args.heap.now, (c.args.primary.now, c.args.secondary.now)) in
    let h = rw c.in-Heap.is at c.locate.ensures in
    heap-there (under c.args.form c.args.map) s c.requires.0 c.requires.1 c.args.from.0 _ h.0 h.1

pub read-requires-in-Stack : goal.read-requires-in-Stack
read-requires-in-Stack c =
    let s : Shadows = (c.args.heap.now, (c.args.primary.now, c.args.secondary.now)) in
    let h = rw c.in-Stack.is at c.locate.ensures in
    stack-there (under c.args.form c.args.map) s c.requires.0 c.requires.1 c.args.from.0 _ h.0 h.1

pub returns-in-Heap : goal.returns-in-Heap
returns-in-Heap c w n =
    let s : Shadows = (c.args.heap.now, (c.args.primary.now, c.args.secondary.now)) in
    let h = rw c.in-Heap.is at c.locate.ensures in
    valid-out-heap (under c.args.form c.args.map) s c.requires.0 c.requires.1 w n _ c.args.from.0 c.in-Heap.q.0 _ h.0 h.1
    c.read.ensures c.apart.ensures

pub returns-in-Stack : goal.returns-in-Stack
returns-in-Stack c w n =
    let s : Shadows = (c.args.heap.now, (c.args.primary.now, c.args.secondary.now)) in
    let h = rw c.in-Stack.is at c.locate.ensures in
    valid-out-stack (under c.args.form c.args.map) s c.requires.0 c.requires.1 w n _ c.args.from.0 c.in-Stack.q.0 _ h.0 h.1
    c.read-in-Stack.ensures c.apart-in-Stack.ensures

pub returns-in-Outside : goal.returns-in-Outside
returns-in-Outside c w n =
    let s : Shadows = (c.args.heap.now, (c.args.primary.now, c.args.secondary.now)) in
    let h = rw c.in-Outside.is at c.locate.ensures in
    valid-out-out (under c.args.form c.args.map) s c.requires.0 c.requires.1 w n c.args.from.0 _ h c.yes_no.ensures
