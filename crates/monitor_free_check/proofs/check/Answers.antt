-- `monitor_free_check::check` meets its contract: one arm for each area. Assumes nothing.
use Rattle.std.proofs.Common.{◌≡◌, sym}
use Rattle.std.specs.Prelude.{Err}
use native.Mathlib.Omega.{arith}
use Rattle.map.specs.FormMap.{under}
use Rattle.shadows.specs.Shadows.{Shadows}
use Rattle.monitor_base.proofs.LocatingLaws.{heap-there}
use Rattle.monitor_write_laws.proofs.EndChecks.{null-freed, outside-freed, stack-freed, heap-freed, freeable}
use Rattle.monitor_free_check.proofs.check.Goals as goal

pub read-requires : goal.read-requires
read-requires c =
    let s : Shadows = (c.args.heap.now, (c.args.primary.now, c.args.secondary.now)) in
    let h = rw c.in-Heap.is at c.locate.ensures in
    heap-there (under c.args.form c.args.map) s c.requires.0 c.requires.1 c.args.base.0 _ h.0 h.1

pub returns-in_err-ending-in-Heap : goal.returns-in_err-ending-in-Heap
returns-in_err-ending-in-Heap c =
    let s : Shadows = (c.args.heap.now, (c.args.primary.now, c.args.secondary.now)) in
    let m = under c.args.form c.args.map in
    let h = rw c.in-Heap.is at c.locate.ensures in
    let e = c.in_err-ending-in-Heap.was in
    let gone : c.from_residual.result ≡ Err c.in_err-ending-in-Heap.field-0.0 = grind arith in
    rw gone (
      rw (sym c.read.ensures, sym c.ending.ensures, e) at (heap-freed m s c.args.base.0 c.requires.0 c.requires.1 _ h),
      rw (sym c.read.ensures, sym c.ending.ensures, e) at (freeable m s c.args.base.0 c.requires.0 c.requires.1 _ h),
    )

pub returns-in_ok-ending-in-Heap : goal.returns-in_ok-ending-in-Heap
returns-in_ok-ending-in-Heap c =
    let s : Shadows = (c.args.heap.now, (c.args.primary.now, c.args.secondary.now)) in
    let m = under c.args.form c.args.map in
    let h = rw c.in-Heap.is at c.locate.ensures in
    let e = c.in_ok-ending-in-Heap.was in (
      rw (sym c.read.ensures, sym c.ending.ensures, e) at (heap-freed m s c.args.base.0 c.requires.0 c.requires.1 _ h),
      rw (sym c.read.ensures, sym c.ending.ensures, e) at (freeable m s c.args.base.0 c.requires.0 c.requires.1 _ h),
    )

pub returns-in-Stack : goal.returns-in-Stack
returns-in-Stack c =
    let s : Shadows = (c.args.heap.now, (c.args.primary.now, c.args.secondary.now)) in
    let h = rw c.in-Stack.is at c.locate.ensures in
    (stack-freed (under c.args.form c.args.map) s c.args.base.0 c.requires.0 c.requires.1 _ h, λ z. omega arith)

pub returns-then-base-eq0 : goal.returns-then-base-eq0
returns-then-base-eq0 c =
    let s : Shadows = (c.args.heap.now, (c.args.primary.now, c.args.secondary.now)) in
    (null-freed (under c.args.form c.args.map) s c.args.base.0 c.requires.0 c.requires.1 c.if-base-eq0.true, c.if-base-eq0.true)

pub returns-else-base-eq0 : goal.returns-else-base-eq0
returns-else-base-eq0 c =
    let s : Shadows = (c.args.heap.now, (c.args.primary.now, c.args.secondary.now)) in
    let h = rw c.in-Outside.is at c.locate.ensures in
    (outside-freed (under c.args.form c.args.map) s c.args.base.0 c.requires.0 c.requires.1 c.if-base-eq0.false h, λ z. omega arith)
