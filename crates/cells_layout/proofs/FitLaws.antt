-- Cells are twice as long as their areas: as facts, and of an image. Each byte of an image is below 256. Assumes nothing.
use mathlib.Core.Path.{◌≡◌}
use mathlib.Core.Bool.{true}
use Prim.Native.Nat.{◌*◌}
use lib.ListN.{length}
use lib.Dec.{eqb}
use borrow.Author.Tests.{eq-eqb, eqb-true}
use Rattle.number.specs.Little.{Bytes}
use Rattle.number.proofs.TestLaws.{and-true}
use Rattle.map.specs.declared.Map.{Map}
use Rattle.origins_list.specs.Cells.{Held}
use Rattle.cells_layout.specs.Cells.{Cells, cells_fit, cell_image}
use Rattle.cells_layout.proofs.AreaLaws.{length-area, area-bytes}

abbrev pub CellLengths : Map → Cells → Type 0
CellLengths m x = (length x.0 ≡ 2 * m.heap_size) × (length x.1 ≡ 2 * m.stack_size)

pub cells-fit-true : (m : Map) (x : Cells) → cells_fit m x ≡ true → CellLengths m x
unfolding cells_fit
cells-fit-true m x e =
    let t = and-true (eqb (length x.0) (2 * m.heap_size)) (eqb (length x.1) (2 * m.stack_size)) e in
    (eqb-true (length x.0) (2 * m.heap_size) t.0, eqb-true (length x.1) (2 * m.stack_size) t.1)

pub true-cells-fit : (m : Map) (x : Cells) → CellLengths m x → cells_fit m x ≡ true
unfolding cells_fit
true-cells-fit m x l = rw (eq-eqb (length x.0) (2 * m.heap_size) l.0, eq-eqb (length x.1) (2 * m.stack_size) l.1)

pub cells-image-fits : (m : Map) (f g : Held) → cells_fit m (cell_image m f g) ≡ true
cells-image-fits m f g =
    true-cells-fit m (cell_image m f g)
    (length-area m.heap_start m.heap_size f g, length-area m.stack_start m.stack_size f g)

pub cells-image-bytes : (m : Map) (f g : Held) → Bytes (cell_image m f g).0 × Bytes (cell_image m f g).1
cells-image-bytes m f g =
    (area-bytes m.heap_start m.heap_size f g, area-bytes m.stack_start m.stack_size f g)
