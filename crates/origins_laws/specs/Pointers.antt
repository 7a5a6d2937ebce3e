-- The calls of pointers: the number by what is read, and what is known where it is 0. Assumes nothing.
use Rattle.std.specs.Prelude.{◌≡◌, Bool, not, ◌&&◌, ◌||◌, List, [], ◌∷◌, ℕ, ◌*◌, ◌%◌, ◌≤◌, ◌<◌, length}
use Rattle.map.specs.declared.Map.{Map}
use Rattle.map.specs.FormMap.{player}
use Rattle.plain.specs.Areas.{map_rules}
use Rattle.plain.specs.Call.{first_of}
use Rattle.plain.specs.Reading.{Reading, nothing, block, damaged}
use Rattle.plain.specs.Ops.{read_any}
use Rattle.plain.specs.ShadowCalls.{is_damaged, in_one}
use Rattle.shadows.specs.Shadows.{Shadows, shadow_ops}
use Rattle.map.specs.Locating.{Lies}
use Rattle.map.specs.declared.Located.{Located}
use Rattle.map.specs.declared.Located.TheVariants.{Heap, Stack, Outside}
use Rattle.origins_list.specs.Call.{point, copy, is_cell}
use Rattle.origins_list.specs.StateCalls.{origin_read}
use Rattle.cells_layout.specs.Cells.{Cells, cell_ops}
use Rattle.origins_base.specs.Calls.{State, refusals}
use Rattle.origins_laws.specs.CellsAt.{CellAt}

-- ---- the cell of a block's base

-- there is a cell for the base of the block that a reading by positions gives
abbrev pub BaseIn : (cells : List ℕ) → Reading → Type 0
BaseIn h nothing = Unit {0}
BaseIn h (block b l o w k) = (2 * b < length h) × (length h % 8 ≡ 0) × (length h ≤ 262144)
BaseIn h damaged = Unit {0}

-- of the reading of where an address lies
abbrev pub BaseAt : Located → Reading → Cells → Type 0
BaseAt (Heap p) r x = BaseIn x.0 r
BaseAt (Stack p) r x = BaseIn x.1 r
BaseAt Outside r x = Unit {0}

-- ---- the numbers

-- a pointer can stand in the cell c, by the reading of its first byte
abbrev pub holds_pointer : (c : ℕ) → Reading → Bool
holds_pointer c r = is_cell c && in_one 4 r

-- kinds 11 and 13 once 4 is past: the readings of the cell and of the address
abbrev pub point_refusal : (c : ℕ) → Reading → Reading → ℕ
point_refusal c r q = first_of ((8, is_damaged r || is_damaged q) ∷ (11, not (holds_pointer c r)) ∷ [])

-- kind 12: the readings of both cells
abbrev pub copy_refusal : (t f : ℕ) → Reading → Reading → ℕ
copy_refusal t f r q = first_of ((8, is_damaged r || is_damaged q) ∷ (11, not (holds_pointer t r) || not (holds_pointer f q)) ∷ [])

module _ (m : Map) (s : Shadows) (x : Cells) where
  -- no counter decides the number of these calls
  abbrev state : State
  state = record { shadows = s; cells = x; counter = 0 }

  abbrev pub point_number : (cell address : ℕ) → ℕ
  point_number c a = first_of (refusals m (point c a) state)

  abbrev pub copy_number : (to from : ℕ) → ℕ
  copy_number t f = first_of (refusals m (copy t f) state)

  -- ---- what a pointer is set to, and where it stands

  -- the origin of the block that holds an address, 0 where there is none
  abbrev pub origin_held : (address : ℕ) → ℕ
  origin_held a = origin_read (cell_ops m) x (read_any (map_rules (player m)) (shadow_ops (player m)) s a)

  -- the cell lies there
  abbrev pub CellLies : (cell : ℕ) → Located → Type 0
  CellLies c l = Lies m c l × CellAt l x
