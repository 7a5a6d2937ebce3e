-- `monitor_remove_check::check` meets its contract: one arm for each area. Assumes nothing.
use native.Mathlib.Omega.{arith}
use Rattle.number.specs.Parts.{at}
use Rattle.map.specs.FormMap.{under}
use Rattle.stack_laws.proofs.WholeLaws.{length-read}
use Rattle.shadows.specs.Shadows.{Shadows}
use Rattle.monitor_base.proofs.LocatingLaws.{stack-there}
use Rattle.monitor_write_laws.proofs.EndChecks.{outside-removed, heap-removed, stack-removed, removable}
use Rattle.monitor_remove_check.proofs.check.Goals as goal

pub length_at-requires : goal.length_at-requires
length_at-requires c =
    let s : Shadows = (c.args.heap.now, (c.args.primary.now, c.args.secondary.now)) in
    let h = rw c.in-Stack.is at c.locate.ensures in
    let t = stack-there (under c.args.form c.args.map) s c.requires.0 c.requires.1 c.args.base.0 _ h.0 h.1 in
    (t.0, t.2)

-- a block of four or eight bytes, by its first
pub returns-in-Some : goal.returns-in-Some
returns-in-Some c =
    let s : Shadows = (c.args.heap.now, (c.args.primary.now, c.args.secondary.now)) in
    let m = under c.args.form c.args.map in
    let h = rw c.in-Stack.is at c.locate.ensures in
    let r = length-read _ (at c.args.primary.now) (at c.args.secondary.now) c.in-Stack.p.0 c.in-Some.length c.in-Some.ensures.0 c.in-Some.ensures.1 in
    (rw r at (stack-removed m s c.args.base.0 c.requires.0 c.requires.1 _ h), rw r at (removable m s c.args.base.0 c.requires.0 c.requires.1 _ h))

pub read-requires : goal.read-requires
read-requires c =
    let s : Shadows = (c.args.heap.now, (c.args.primary.now, c.args.secondary.now)) in
    let h = rw c.in-Stack.is at c.locate.ensures in
    stack-there (under c.args.form c.args.map) s c.requires.0 c.requires.1 c.args.base.0 _ h.0 h.1

pub returns-in_default : goal.returns-in_default
returns-in_default c =
    let s : Shadows = (c.args.heap.now, (c.args.primary.now, c.args.secondary.now)) in
    let m = under c.args.form c.args.map in
    let h = rw c.in-Stack.is at c.locate.ensures in
    rw (c.ending.ensures, c.read.ensures) (stack-removed m s c.args.base.0 c.requires.0 c.requires.1 _ h, removable m s c.args.base.0 c.requires.0 c.requires.1 _ h)

pub returns-in-Heap : goal.returns-in-Heap
returns-in-Heap c =
    let s : Shadows = (c.args.heap.now, (c.args.primary.now, c.args.secondary.now)) in
    let h = rw c.in-Heap.is at c.locate.ensures in
    (heap-removed (under c.args.form c.args.map) s c.args.base.0 c.requires.0 c.requires.1 _ h, λ z. omega arith)

pub returns-in-Outside : goal.returns-in-Outside
returns-in-Outside c =
    let s : Shadows = (c.args.heap.now, (c.args.primary.now, c.args.secondary.now)) in
    let h = rw c.in-Outside.is at c.locate.ensures in
    (outside-removed (under c.args.form c.args.map) s c.args.base.0 c.requires.0 c.requires.1 h, λ z. omega arith)
