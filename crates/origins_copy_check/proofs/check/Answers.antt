-- `origins_copy_check::check` meets its contract. Assumes nothing.
use mathlib.Core.Path.{◌≡◌, sym, ◌∙◌}
use native.Mathlib.Omega.{arith}
use Rattle.map.specs.FormMap.{player}
use Rattle.map.specs.declared.Located.TheVariants.{Outside}
use Rattle.shadows.specs.Shadows.{Shadows}
use Rattle.monitor_read_laws.proofs.AskingLaws.{ReadAt, heap-arm, stack-arm, there-as}
use Rattle.origins_list.specs.Call.{copy}
use Rattle.cells_layout.specs.Cells.{Cells}
use Rattle.origins_laws.proofs.AtLaws.{cell_at, referent-at}
use Rattle.origins_laws.proofs.PointerLaws.{copy_number_lem, copy-number-to, copy-number-from}
use Rattle.origins_pointer.proofs.CheckLaws.{fits, unfit, aim-refused}
use Rattle.origins_copy_check.proofs.check.Goals as goal
use Rattle.origins_copy_check.proofs.check.Goals.{in-Heap, in-Stack, in-Heap-source, in-Stack-source}

pub returns-in_err-checked : goal.returns-in_err-checked
returns-in_err-checked c =
    let s : Shadows = (c.args.heap.now, (c.args.primary.now, c.args.secondary.now)) in
    let x : Cells = (c.args.heap_cells.now, c.args.stack_cells.now) in
    let e = c.in_err-checked.ensures in
    aim-refused c.args.map s x c.args.to.0 _ _ c.from_residual.result _ c.from_residual.ensures.1
    (unfit c.args.map s x (copy c.args.to.0 c.args.from.0) _ e.0 e.1) e.1

pub read-there-requires : goal.read-there-requires
read-there-requires c =
    let s : Shadows = (c.args.heap.now, (c.args.primary.now, c.args.secondary.now)) in
    let g = fits c.args.map s (c.args.heap_cells.now, c.args.stack_cells.now) c.in_ok-checked.ensures in
    there-as (player c.args.map) s g.0 g.1 c.args.to.0 c.locate-place.result _ c.locate-place.ensures c.in-Heap.is

pub read-there-requires-in-Stack : goal.read-there-requires-in-Stack
read-there-requires-in-Stack c =
    let s : Shadows = (c.args.heap.now, (c.args.primary.now, c.args.secondary.now)) in
    let g = fits c.args.map s (c.args.heap_cells.now, c.args.stack_cells.now) c.in_ok-checked.ensures in
    there-as (player c.args.map) s g.0 g.1 c.args.to.0 c.locate-place.result _ c.locate-place.ensures c.in-Stack.is

pub returns-in-Outside : goal.returns-in-Outside
returns-in-Outside c =
    let s : Shadows = (c.args.heap.now, (c.args.primary.now, c.args.secondary.now)) in
    let x : Cells = (c.args.heap_cells.now, c.args.stack_cells.now) in
    let g = fits c.args.map s x c.in_ok-checked.ensures in
    (copy-number-to c.args.map s x g.0 g.1 g.2 c.args.to.0 c.args.from.0 (rw c.in-Outside.is at c.locate-place.ensures), λ z. omega (arith, z))

pub read-held-requires : goal.read-held-requires
read-held-requires c =
    let s : Shadows = (c.args.heap.now, (c.args.primary.now, c.args.secondary.now)) in
    let g = fits c.args.map s (c.args.heap_cells.now, c.args.stack_cells.now) c.in_ok-checked.ensures in
    there-as (player c.args.map) s g.0 g.1 c.args.from.0 c.locate-source.result _ c.locate-source.ensures c.in-Heap-source.is

pub read-held-requires-in-Stack-source : goal.read-held-requires-in-Stack-source
read-held-requires-in-Stack-source c =
    let s : Shadows = (c.args.heap.now, (c.args.primary.now, c.args.secondary.now)) in
    let g = fits c.args.map s (c.args.heap_cells.now, c.args.stack_cells.now) c.in_ok-checked.ensures in
    there-as (player c.args.map) s g.0 g.1 c.args.from.0 c.locate-source.result _ c.locate-source.ensures c.in-Stack-source.is

-- the ways meet: what is there and what is held are the readings of the two cells, and each lies in an area
pub returns-in-Outside-source : goal.returns-in-Outside-source
returns-in-Outside-source c =
    let s : Shadows = (c.args.heap.now, (c.args.primary.now, c.args.secondary.now)) in
    let x : Cells = (c.args.heap_cells.now, c.args.stack_cells.now) in
    let g = fits c.args.map s x c.in_ok-checked.ensures in
    let t : ReadAt (player c.args.map) s c.args.to.0 c.match-place.place c.match-place.there × (c.match-place.place ≡ Outside → ⊥) =
    elim c.match-place.branch [
      | in-Heap w ↦ heap-arm (player c.args.map) s c.args.to.0 _ c.locate-place.result _ _ c.locate-place.ensures w.there-is _ w.in-Heap.is w.place-is w.read-there.ensures
      | in-Stack w ↦ stack-arm (player c.args.map) s c.args.to.0 _ c.locate-place.result _ _ c.locate-place.ensures w.there-is _ w.in-Stack.is w.place-is w.read-there-in-Stack.ensures
    ] in
    let n = copy-number-from c.args.map s x g.0 g.1 g.2 c.args.to.0 c.args.from.0 c.match-place.place t.0.0 t.1 (rw c.in-Outside-source.is at c.locate-source.ensures) in
    (n, λ z. omega (arith, z))

pub returns-in_err-copy_refusal : goal.returns-in_err-copy_refusal
returns-in_err-copy_refusal c =
    let s : Shadows = (c.args.heap.now, (c.args.primary.now, c.args.secondary.now)) in
    let x : Cells = (c.args.heap_cells.now, c.args.stack_cells.now) in
    let g = fits c.args.map s x c.in_ok-checked.ensures in
    let t : ReadAt (player c.args.map) s c.args.to.0 c.match-place.place c.match-place.there × (c.match-place.place ≡ Outside → ⊥) =
    elim c.match-place.branch [
      | in-Heap w ↦ heap-arm (player c.args.map) s c.args.to.0 _ c.locate-place.result _ _ c.locate-place.ensures w.there-is _ w.in-Heap.is w.place-is w.read-there.ensures
      | in-Stack w ↦ stack-arm (player c.args.map) s c.args.to.0 _ c.locate-place.result _ _ c.locate-place.ensures w.there-is _ w.in-Stack.is w.place-is w.read-there-in-Stack.ensures
    ] in
    let h : ReadAt (player c.args.map) s c.args.from.0 c.match-source.source c.match-source.held × (c.match-source.source ≡ Outside → ⊥) =
    elim c.match-source.branch [
      | in-Heap-source w ↦ heap-arm (player c.args.map) s c.args.from.0 _ c.locate-source.result _ _ c.locate-source.ensures w.held-is _ w.in-Heap-source.is w.source-is w.read-held.ensures
      | in-Stack-source w ↦ stack-arm (player c.args.map) s c.args.from.0 _ c.locate-source.result _ _ c.locate-source.ensures w.held-is _ w.in-Stack-source.is w.source-is w.read-held-in-Stack-source.ensures
    ] in
    let e = c.in_err-copy_refusal.ensures in
    aim-refused c.args.map s x c.args.to.0 _ _ c.from_residual-in_err-copy_refusal.result _ c.from_residual-in_err-copy_refusal.ensures.1
    (copy_number_lem c.args.map s x g.0 g.1 g.2 c.args.to.0 c.args.from.0 c.match-place.place c.match-source.source t.0.0 h.0.0 t.1 h.1 _ _ t.0.1 h.0.1 _ e.0) e.1

pub referent-requires : goal.referent-requires
referent-requires c =
    let s : Shadows = (c.args.heap.now, (c.args.primary.now, c.args.secondary.now)) in
    let x : Cells = (c.args.heap_cells.now, c.args.stack_cells.now) in
    let g = fits c.args.map s x c.in_ok-checked.ensures in
    let h : ReadAt (player c.args.map) s c.args.from.0 c.match-source.source c.match-source.held × (c.match-source.source ≡ Outside → ⊥) =
    elim c.match-source.branch [
      | in-Heap-source w ↦ heap-arm (player c.args.map) s c.args.from.0 _ c.locate-source.result _ _ c.locate-source.ensures w.held-is _ w.in-Heap-source.is w.source-is w.read-held.ensures
      | in-Stack-source w ↦ stack-arm (player c.args.map) s c.args.from.0 _ c.locate-source.result _ _ c.locate-source.ensures w.held-is _ w.in-Stack-source.is w.source-is w.read-held-in-Stack-source.ensures
    ] in
    cell_at c.args.map s x g.0 g.1 g.2 c.args.from.0 c.match-source.source h.0.0 h.1

pub returns : goal.returns
returns c =
    let s : Shadows = (c.args.heap.now, (c.args.primary.now, c.args.secondary.now)) in
    let x : Cells = (c.args.heap_cells.now, c.args.stack_cells.now) in
    let g = fits c.args.map s x c.in_ok-checked.ensures in
    let t : ReadAt (player c.args.map) s c.args.to.0 c.match-place.place c.match-place.there × (c.match-place.place ≡ Outside → ⊥) =
    elim c.match-place.branch [
      | in-Heap w ↦ heap-arm (player c.args.map) s c.args.to.0 _ c.locate-place.result _ _ c.locate-place.ensures w.there-is _ w.in-Heap.is w.place-is w.read-there.ensures
      | in-Stack w ↦ stack-arm (player c.args.map) s c.args.to.0 _ c.locate-place.result _ _ c.locate-place.ensures w.there-is _ w.in-Stack.is w.place-is w.read-there-in-Stack.ensures
    ] in
    let h : ReadAt (player c.args.map) s c.args.from.0 c.match-source.source c.match-source.held × (c.match-source.source ≡ Outside → ⊥) =
    elim c.match-source.branch [
      | in-Heap-source w ↦ heap-arm (player c.args.map) s c.args.from.0 _ c.locate-source.result _ _ c.locate-source.ensures w.held-is _ w.in-Heap-source.is w.source-is w.read-held.ensures
      | in-Stack-source w ↦ stack-arm (player c.args.map) s c.args.from.0 _ c.locate-source.result _ _ c.locate-source.ensures w.held-is _ w.in-Stack-source.is w.source-is w.read-held-in-Stack-source.ensures
    ] in
    let n = copy_number_lem c.args.map s x g.0 g.1 g.2 c.args.to.0 c.args.from.0 c.match-place.place c.match-source.source t.0.0 h.0.0 t.1 h.1 _ _ t.0.1 h.0.1 0 (sym c.in_ok-copy_refusal.ensures) in (
      sym n,
      (t.0.0, cell_at c.args.map s x g.0 g.1 g.2 c.args.to.0 c.match-place.place t.0.0 t.1),
      c.referent.ensures ∙ sym (referent-at c.args.map x c.args.from.0 c.match-source.source h.0.0 h.1),
    )
