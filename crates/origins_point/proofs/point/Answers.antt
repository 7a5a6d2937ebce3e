-- `origins_point::point` meets its contract: the check, then the effect. Assumes nothing.
use mathlib.Core.Path.{refl, sym}
use Rattle.shadows.specs.Shadows.{Shadows}
use Rattle.cells_layout.specs.Cells.{Cells}
use Rattle.origins_laws.proofs.PointerLaws.{point-refused, point-done}
use Rattle.origins_point.proofs.point.Goals as goal

pub returns-in-Ok : goal.returns-in-Ok
returns-in-Ok c =
    let s : Shadows = (c.args.heap.now, (c.args.primary.now, c.args.secondary.now)) in
    let x : Cells = (c.args.heap_cells.now, c.args.stack_cells.now) in
    let f = c.in-Ok.ensures in
    λ n. point-done c.args.map s x _ n c.args.cell.0 c.args.a.0 0 (sym f.0) refl c.in-Ok.aim.place f.1 _ f.2 _ c.set_referent.ensures c.accepted.ensures

pub returns-in-Err : goal.returns-in-Err
returns-in-Err c =
    let s : Shadows = (c.args.heap.now, (c.args.primary.now, c.args.secondary.now)) in
    let x : Cells = (c.args.heap_cells.now, c.args.stack_cells.now) in
    λ n. point-refused c.args.map s x _ n c.args.cell.0 c.args.a.0 _ c.in-Err.ensures.0 c.in-Err.ensures.1 c.refusal.ensures
