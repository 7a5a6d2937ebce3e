-- The cells of a map, those of the heap and those of the stack: their lengths, the operations on them by addresses, and the image of what they
-- hold. Assumes nothing.
use Rattle.std.specs.Prelude.{Bool, ◌&&◌, List, ℕ, ◌*◌, ◌-◌, length, replicate, eqb}
use Rattle.map.specs.declared.Map.{Map}
use Rattle.map.specs.Map.{within}
use Rattle.plain.specs.Join.{read_one, write_one}
use Rattle.origins_list.specs.CellOps.{CellOps}
use Rattle.origins_list.specs.Cells.{Held}
use Rattle.cells_layout.specs.Area.{origin_place, referent_place, half_at, set_half, zero_cells, area_image}

-- heap cells, stack cells
abbrev pub Cells : Type 0
Cells = List ℕ × List ℕ

-- "twice the size of the areas"
unfoldable pub cells_fit : Map → Cells → Bool
cells_fit m x = eqb (length x.0) (2 * m.heap_size) && eqb (length x.1) (2 * m.stack_size)

-- all cells zero
abbrev pub no_cells : Map → Cells
no_cells m = (replicate (2 * m.heap_size) 0, replicate (2 * m.stack_size) 0)

abbrev in_heap : Map → ℕ → Bool
in_heap m a = within m.heap_start m.heap_size a

-- each operation on the cells of the area that the address lies in, at position = address − area start
abbrev pub cell_ops : Map → CellOps Cells
cell_ops m =
    record {
      cleared = no_cells m;
      origin =
          λ x a. read_one (in_heap m a) (λ h. half_at h (origin_place (a - m.heap_start))) (λ h. half_at h (origin_place (a - m.stack_start))) x;
      referent =
          λ x a. read_one (in_heap m a) (λ h. half_at h (referent_place (a - m.heap_start))) (λ h. half_at h (referent_place (a - m.stack_start))) x;
      set_origin =
          λ x a v. write_one (in_heap m a) (λ h. set_half h (origin_place (a - m.heap_start)) v)
          (λ h. set_half h (origin_place (a - m.stack_start)) v) x;
      set_referent =
          λ x a v. write_one (in_heap m a) (λ h. set_half h (referent_place (a - m.heap_start)) v)
          (λ h. set_half h (referent_place (a - m.stack_start)) v) x;
      zeroed =
          λ x b l. write_one (in_heap m b) (λ h. zero_cells h (b - m.heap_start) l) (λ h. zero_cells h (b - m.stack_start) l) x;
    }

-- "After each call the cells hold exactly these: a live block's origin at its base's cell, a set pointer's referent at its own, zero elsewhere"
abbrev pub cell_image : Map → (origins referents : Held) → Cells
cell_image m f g = (area_image m.heap_start m.heap_size f g, area_image m.stack_start m.stack_size f g)
