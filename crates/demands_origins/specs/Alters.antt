-- Request S-4: the two numbers of a cell; kinds 11 to 13 leave the three block shadows (the plain kinds: PlainKinds.antt), and every call leaves the
-- cells' lengths, on any bytes. Proved in proofs/Alters.antt. Assumes nothing.
use Rattle.std.specs.Prelude.{◌≡◌, cond, ℕ, ◌+◌, ◌*◌, ◌-◌, ◌%◌, length}
use Rattle.number.specs.Little.{word}
use Rattle.number.specs.Parts.{at}
use Rattle.map.specs.declared.Map.{Map}
use Rattle.map.specs.FormMap.{player}
use Rattle.demands.specs.Addresses.{in_heap}
use Rattle.origins_list.specs.Call.{Call, point, copy, live}
use Rattle.cells_layout.specs.Cells.{Cells}
use Rattle.origins_base.specs.Calls.{State, call}

-- the four-byte numbers of the cell that an address lies in: "an origin and a referent, four bytes each"
abbrev pub cell_start : ℕ → ℕ
cell_start a = a - a % 4

abbrev pub number_in : Map → Cells → (cell first : ℕ) → ℕ
number_in m x c i = cond (in_heap (player m) c) (word (at x.0) (2 * (c - m.heap_start) + i) 4) (word (at x.1) (2 * (c - m.stack_start) + i) 4)

abbrev pub origin_in : Map → Cells → ℕ → ℕ
origin_in m x c = number_in m x c 0

abbrev pub referent_in : Map → Cells → ℕ → ℕ
referent_in m x c = number_in m x c 4

-- the cells after a call
abbrev pub cells_left : Map → Call → State → Cells
cells_left m c x = (call m c x).0.cells

abbrev pub ShadowsLeft : Type 0
ShadowsLeft =
    (m : Map) (c a : ℕ) (x : State)
    → ((call m (point c a) x).0.shadows ≡ x.shadows) × ((call m (copy c a) x).0.shadows ≡ x.shadows) × ((call m (live c a) x).0.shadows ≡ x.shadows)

-- the cells keep their lengths
abbrev pub CellLengthsKept : Type 0
CellLengthsKept =
    (m : Map) (c : Call) (x : State)
    → (length (cells_left m c x).0 ≡ length x.cells.0) × (length (cells_left m c x).1 ≡ length x.cells.1)
