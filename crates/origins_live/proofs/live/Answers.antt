-- `origins_live::live` meets its contract. Assumes nothing.
use mathlib.Core.Path.{◌≡◌, refl, sym, ◌∙◌}
use native.Mathlib.Omega.{arith}
use Rattle.map.specs.FormMap.{player}
use Rattle.map.specs.declared.Located.TheVariants.{Outside}
use Rattle.shadows.specs.Shadows.{Shadows}
use Rattle.monitor_read_laws.proofs.AskingLaws.{ReadAt, heap-arm, stack-arm, other_arm, there-as}
use Rattle.origins_list.specs.Call.{live}
use Rattle.cells_layout.specs.Cells.{Cells}
use Rattle.origins_laws.proofs.AtLaws.{cell_at}
use Rattle.origins_laws.proofs.PointerLaws.{has_base, origin-held, point_number_lem, point-number-4, live-refused, live-done}
use Rattle.origins_pointer.proofs.CheckLaws.{fits, unfit}
use Rattle.origins_live.proofs.live.Goals as goal
use Rattle.origins_live.proofs.live.Goals.{in-Heap, in-Stack, in-Heap-target, in-Stack-target, in-Outside-target}

pub returns-in-Err : goal.returns-in-Err
returns-in-Err c =
    let s : Shadows = (c.args.heap.now, (c.args.primary.now, c.args.secondary.now)) in
    let x : Cells = (c.args.heap_cells.now, c.args.stack_cells.now) in
    let e = c.in-Err.ensures in
    λ n. live-refused c.args.map s x _ n c.args.cell.0 c.args.a.0 _ (unfit c.args.map s x (live c.args.cell.0 c.args.a.0) _ e.0 e.1) e.1 c.refusal.ensures

pub read-held-requires : goal.read-held-requires
read-held-requires c =
    let s : Shadows = (c.args.heap.now, (c.args.primary.now, c.args.secondary.now)) in
    let g = fits c.args.map s (c.args.heap_cells.now, c.args.stack_cells.now) c.in_default.ensures in
    there-as (player c.args.map) s g.0 g.1 c.args.cell.0 c.locate-place.result _ c.locate-place.ensures c.in-Heap.is

pub read-held-requires-in-Stack : goal.read-held-requires-in-Stack
read-held-requires-in-Stack c =
    let s : Shadows = (c.args.heap.now, (c.args.primary.now, c.args.secondary.now)) in
    let g = fits c.args.map s (c.args.heap_cells.now, c.args.stack_cells.now) c.in_default.ensures in
    there-as (player c.args.map) s g.0 g.1 c.args.cell.0 c.locate-place.result _ c.locate-place.ensures c.in-Stack.is

pub returns-in-Outside : goal.returns-in-Outside
returns-in-Outside c =
    let s : Shadows = (c.args.heap.now, (c.args.primary.now, c.args.secondary.now)) in
    let x : Cells = (c.args.heap_cells.now, c.args.stack_cells.now) in
    let g = fits c.args.map s x c.in_default.ensures in
    λ n. live-refused c.args.map s x _ n c.args.cell.0 c.args.a.0 _
    (point-number-4 c.args.map s x g.0 g.1 g.2 c.args.cell.0 c.args.a.0 (rw c.in-Outside.is at c.locate-place.ensures))
    (λ z. omega (arith, z)) c.refusal-in-Outside.ensures

pub read-told-requires : goal.read-told-requires
read-told-requires c =
    let s : Shadows = (c.args.heap.now, (c.args.primary.now, c.args.secondary.now)) in
    let g = fits c.args.map s (c.args.heap_cells.now, c.args.stack_cells.now) c.in_default.ensures in
    there-as (player c.args.map) s g.0 g.1 c.args.a.0 c.locate-target.result _ c.locate-target.ensures c.in-Heap-target.is

pub read-told-requires-in-Stack-target : goal.read-told-requires-in-Stack-target
read-told-requires-in-Stack-target c =
    let s : Shadows = (c.args.heap.now, (c.args.primary.now, c.args.secondary.now)) in
    let g = fits c.args.map s (c.args.heap_cells.now, c.args.stack_cells.now) c.in_default.ensures in
    there-as (player c.args.map) s g.0 g.1 c.args.a.0 c.locate-target.result _ c.locate-target.ensures c.in-Stack-target.is

-- the ways meet: what is held is the reading of the cell, which lies in an area, and what is told is that of the address, in neither area no block
pub returns-in-Err-point_refusal : goal.returns-in-Err-point_refusal
returns-in-Err-point_refusal c =
    let s : Shadows = (c.args.heap.now, (c.args.primary.now, c.args.secondary.now)) in
    let x : Cells = (c.args.heap_cells.now, c.args.stack_cells.now) in
    let g = fits c.args.map s x c.in_default.ensures in
    let h : ReadAt (player c.args.map) s c.args.cell.0 c.match-place.place c.match-place.held × (c.match-place.place ≡ Outside → ⊥) =
    elim c.match-place.branch [
      | in-Heap w ↦ heap-arm (player c.args.map) s c.args.cell.0 _ c.locate-place.result _ _ c.locate-place.ensures w.held-is _ w.in-Heap.is w.place-is w.read-held.ensures
      | in-Stack w ↦ stack-arm (player c.args.map) s c.args.cell.0 _ c.locate-place.result _ _ c.locate-place.ensures w.held-is _ w.in-Stack.is w.place-is w.read-held-in-Stack.ensures
    ] in
    let t : ReadAt (player c.args.map) s c.args.a.0 c.match-target.target c.match-target.told =
    elim c.match-target.branch [
      | in-Heap-target w ↦ (heap-arm (player c.args.map) s c.args.a.0 _ c.locate-target.result _ _ c.locate-target.ensures w.told-is _ w.in-Heap-target.is w.target-is w.read-told.ensures).0
      | in-Stack-target w ↦ (stack-arm (player c.args.map) s c.args.a.0 _ c.locate-target.result _ _ c.locate-target.ensures w.told-is _ w.in-Stack-target.is w.target-is w.read-told-in-Stack-target.ensures).0
      | in-Outside-target w ↦ other_arm (player c.args.map) s c.args.a.0 _ c.locate-target.result _ _ c.locate-target.ensures w.told-is w.in-Outside-target.is (w.target-is ∙ w.in-Outside-target.is) refl
    ] in
    let e = c.in-Err-point_refusal.ensures in
    λ n. live-refused c.args.map s x _ n c.args.cell.0 c.args.a.0 _
    (point_number_lem c.args.map s x g.0 g.1 g.2 c.args.cell.0 c.args.a.0 c.match-place.place c.match-target.target h.0.0 t.0 h.1 _ _ h.0.1 t.1 _ e.0) e.1
    c.refusal-in-Err-point_refusal.ensures

pub referent-set-requires : goal.referent-set-requires
referent-set-requires c =
    let s : Shadows = (c.args.heap.now, (c.args.primary.now, c.args.secondary.now)) in
    let x : Cells = (c.args.heap_cells.now, c.args.stack_cells.now) in
    let g = fits c.args.map s x c.in_default.ensures in
    let h : ReadAt (player c.args.map) s c.args.cell.0 c.match-place.place c.match-place.held × (c.match-place.place ≡ Outside → ⊥) =
    elim c.match-place.branch [
      | in-Heap w ↦ heap-arm (player c.args.map) s c.args.cell.0 _ c.locate-place.result _ _ c.locate-place.ensures w.held-is _ w.in-Heap.is w.place-is w.read-held.ensures
      | in-Stack w ↦ stack-arm (player c.args.map) s c.args.cell.0 _ c.locate-place.result _ _ c.locate-place.ensures w.held-is _ w.in-Stack.is w.place-is w.read-held-in-Stack.ensures
    ] in
    cell_at c.args.map s x g.0 g.1 g.2 c.args.cell.0 c.match-place.place h.0.0 h.1

pub origin_of-origin-requires : goal.origin_of-origin-requires
origin_of-origin-requires c =
    let s : Shadows = (c.args.heap.now, (c.args.primary.now, c.args.secondary.now)) in
    let x : Cells = (c.args.heap_cells.now, c.args.stack_cells.now) in
    let g = fits c.args.map s x c.in_default.ensures in
    let t : ReadAt (player c.args.map) s c.args.a.0 c.match-target.target c.match-target.told =
    elim c.match-target.branch [
      | in-Heap-target w ↦ (heap-arm (player c.args.map) s c.args.a.0 _ c.locate-target.result _ _ c.locate-target.ensures w.told-is _ w.in-Heap-target.is w.target-is w.read-told.ensures).0
      | in-Stack-target w ↦ (stack-arm (player c.args.map) s c.args.a.0 _ c.locate-target.result _ _ c.locate-target.ensures w.told-is _ w.in-Stack-target.is w.target-is w.read-told-in-Stack-target.ensures).0
      | in-Outside-target w ↦ other_arm (player c.args.map) s c.args.a.0 _ c.locate-target.result _ _ c.locate-target.ensures w.told-is w.in-Outside-target.is (w.target-is ∙ w.in-Outside-target.is) refl
    ] in
    has_base c.args.map s x g.0 g.1 g.2 c.args.a.0 c.match-target.target t.0 _ t.1

pub returns : goal.returns
returns c =
    let s : Shadows = (c.args.heap.now, (c.args.primary.now, c.args.secondary.now)) in
    let x : Cells = (c.args.heap_cells.now, c.args.stack_cells.now) in
    let g = fits c.args.map s x c.in_default.ensures in
    let h : ReadAt (player c.args.map) s c.args.cell.0 c.match-place.place c.match-place.held × (c.match-place.place ≡ Outside → ⊥) =
    elim c.match-place.branch [
      | in-Heap w ↦ heap-arm (player c.args.map) s c.args.cell.0 _ c.locate-place.result _ _ c.locate-place.ensures w.held-is _ w.in-Heap.is w.place-is w.read-held.ensures
      | in-Stack w ↦ stack-arm (player c.args.map) s c.args.cell.0 _ c.locate-place.result _ _ c.locate-place.ensures w.held-is _ w.in-Stack.is w.place-is w.read-held-in-Stack.ensures
    ] in
    let t : ReadAt (player c.args.map) s c.args.a.0 c.match-target.target c.match-target.told =
    elim c.match-target.branch [
      | in-Heap-target w ↦ (heap-arm (player c.args.map) s c.args.a.0 _ c.locate-target.result _ _ c.locate-target.ensures w.told-is _ w.in-Heap-target.is w.target-is w.read-told.ensures).0
      | in-Stack-target w ↦ (stack-arm (player c.args.map) s c.args.a.0 _ c.locate-target.result _ _ c.locate-target.ensures w.told-is _ w.in-Stack-target.is w.target-is w.read-told-in-Stack-target.ensures).0
      | in-Outside-target w ↦ other_arm (player c.args.map) s c.args.a.0 _ c.locate-target.result _ _ c.locate-target.ensures w.told-is w.in-Outside-target.is (w.target-is ∙ w.in-Outside-target.is) refl
    ] in
    λ n. live-done c.args.map s x _ n c.args.cell.0 c.args.a.0 0
    (point_number_lem c.args.map s x g.0 g.1 g.2 c.args.cell.0 c.args.a.0 c.match-place.place c.match-target.target h.0.0 t.0 h.1 _ _ h.0.1 t.1 0 (sym c.in_default-point_refusal.ensures)) refl
    c.match-place.place (h.0.0, cell_at c.args.map s x g.0 g.1 g.2 c.args.cell.0 c.match-place.place h.0.0 h.1) _
    (origin-held c.args.map s x g.0 g.1 g.2 c.args.a.0 c.match-target.target t.0 _ t.1 _ c.origin_of-origin.ensures)
    _ c.referent-set.ensures c.yes_no.ensures
