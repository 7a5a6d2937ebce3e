-- `origins_begin::begin` meets its contract: the check, then the effect on shadows, cells and counter. Assumes nothing.
use mathlib.Core.Path.{refl, sym}
use native.Mathlib.Omega.{arith}
use Rattle.std.proofs.lemmas.Result.{err_from_is_err_and}
use Rattle.shadows.specs.Shadows.{Shadows}
use Rattle.cells_layout.specs.Cells.{Cells}
use Rattle.origins_write_laws.proofs.RecordLaws.{record-refused, record-accepted}
use Rattle.origins_begin.proofs.begin.Goals as goal

pub returns-in_err-place : goal.returns-in_err-place
returns-in_err-place c =
    let s : Shadows = (c.args.heap.now, (c.args.primary.now, c.args.secondary.now)) in
    let y : Cells = (c.args.heap_cells.now, c.args.stack_cells.now) in
    let e = c.in_err-place.ensures.0 in
    let p = err_from_is_err_and c.from_residual.result c.from_residual.ensures.1 in
    rw (p.1, p.2) (record-refused c.args.map s y c.args.counter c.args.how c.args.base.0 c.args.len _ e.0 e.1, e.1)

pub stamp-requires : goal.stamp-requires
stamp-requires c = c.in_ok-place.ensures.1.2

pub overflow_cast-counter : goal.overflow_cast-counter
overflow_cast-counter c = omega (arith, c.in_ok-place.ensures.1.4)

pub set_origin-requires : goal.set_origin-requires
set_origin-requires c = c.in_ok-place.ensures.1.3

pub returns : goal.returns
returns c =
    let s : Shadows = (c.args.heap.now, (c.args.primary.now, c.args.secondary.now)) in
    let y : Cells = (c.args.heap_cells.now, c.args.stack_cells.now) in
    let n = c.in_ok-place.ensures.0 in
    let f = c.in_ok-place.ensures.1 in (
      record-accepted c.args.map s y c.args.counter c.args.how c.args.base.0 c.args.len 0 (sym n) refl f.0 c.in_ok-place.place f.1 f.2
          _ c.stamp.ensures _ c.set_origin.ensures,
      f.4,
    )
