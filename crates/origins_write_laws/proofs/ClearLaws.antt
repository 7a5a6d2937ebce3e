-- Cleared cells are all zeros. Assumes nothing.
use mathlib.Core.Path.{◌≡◌, ◌∙◌}
use mathlib.Core.Bool.{true}
use Prim.Native.Nat.{◌*◌}
use lib.ListN.{length}
use Rattle.number.specs.Parts.{over}
use Rattle.map.specs.declared.Map.{Map}
use Rattle.monitor_write_laws.proofs.ClearingLaws.{filled}
use Rattle.cells_layout.specs.Cells.{Cells, cells_fit, no_cells}
use Rattle.cells_layout.proofs.FitLaws.{cells-fit-true}

pub cleared : (m : Map) (y z : Cells) → cells_fit m y ≡ true → z.0 ≡ over 0 (length y.0) (λ q. 0) y.0 → z.1 ≡ over 0 (length y.1) (λ q. 0) y.1
    → z ≡ no_cells m
cleared m y z fit e h =
    let l = cells-fit-true m y fit in
    let heap = e ∙ filled y.0 (2 * m.heap_size) l.0 in
    let stack = h ∙ filled y.1 (2 * m.stack_size) l.1 in
    rw (heap, stack)
