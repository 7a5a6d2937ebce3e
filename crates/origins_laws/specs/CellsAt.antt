-- Cells by where an address lies: its area, and its position there. Assumes nothing.
use Rattle.std.specs.Prelude.{◌≡◌, List, ℕ, ◌*◌, ◌%◌, ◌≤◌, ◌<◌, length}
use Rattle.plain.specs.Reading.{Reading, nothing, block, damaged}
use Rattle.map.specs.declared.Located.{Located}
use Rattle.map.specs.declared.Located.TheVariants.{Heap, Stack, Outside}
use Rattle.cells_layout.specs.Area.{origin_place, referent_place, half_at, set_half, zero_cells}
use Rattle.cells_layout.specs.Cells.{Cells}

-- there is a cell for that byte; in neither area there is none
abbrev pub CellAt : Located → Cells → Type 0
CellAt (Heap p) x = (2 * p.0 < length x.0) × (length x.0 % 8 ≡ 0) × (length x.0 ≤ 262144)
CellAt (Stack p) x = (2 * p.0 < length x.1) × (length x.1 % 8 ≡ 0) × (length x.1 ≤ 262144)
CellAt Outside x = ⊥

abbrev pub referent_at : Located → Cells → ℕ
referent_at (Heap p) x = half_at x.0 (referent_place p.0)
referent_at (Stack p) x = half_at x.1 (referent_place p.0)
referent_at Outside x = 0

abbrev pub set_referent_at : Located → (value : ℕ) → Cells → Cells
set_referent_at (Heap p) v x = (set_half x.0 (referent_place p.0) v, x.1)
set_referent_at (Stack p) v x = (x.0, set_half x.1 (referent_place p.0) v)
set_referent_at Outside v x = x

abbrev pub set_origin_at : Located → (value : ℕ) → Cells → Cells
set_origin_at (Heap p) v x = (set_half x.0 (origin_place p.0) v, x.1)
set_origin_at (Stack p) v x = (x.0, set_half x.1 (origin_place p.0) v)
set_origin_at Outside v x = x

abbrev pub zeroed_at : Located → (l : ℕ) → Cells → Cells
zeroed_at (Heap p) l x = (zero_cells x.0 p.0 l, x.1)
zeroed_at (Stack p) l x = (x.0, zero_cells x.1 p.0 l)
zeroed_at Outside l x = x

-- the origin in the cell of the base of the block that a reading by positions gives, 0 where it gives none
abbrev pub origin_in : (cells : List ℕ) → Reading → ℕ
origin_in h nothing = 0
origin_in h (block b l o w k) = half_at h (origin_place b)
origin_in h damaged = 0

-- of the reading of where an address lies
abbrev pub origin_at : Located → Reading → Cells → ℕ
origin_at (Heap p) r x = origin_in x.0 r
origin_at (Stack p) r x = origin_in x.1 r
origin_at Outside r x = 0
