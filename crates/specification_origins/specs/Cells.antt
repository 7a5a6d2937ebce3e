-- S-4: the cells. Each aligned four bytes of an area are a cell, which has eight bytes in the area's shadow of cells: an origin, then a referent, four
-- bytes each. Assumes nothing.
use Rattle.std.specs.Prelude.{Bool, cond, ◌&&◌, List, ℕ, ◌+◌, ◌*◌, ◌-◌, ◌/◌, ◌%◌, length, replicate, ltb, eqb}
use Rattle.specification.specs.Numbers.{byte_of, word, at, tab, over}
use Rattle.specification.specs.Map.{Map, in_heap}

-- the two shadows of cells: the heap's, the stack's
abbrev pub Cells : Type 0
Cells = List ℕ × List ℕ

abbrev pub cells : (heap stack : List ℕ) → Cells
cells h s = (h, s)

abbrev pub heap_cells : Cells → List ℕ
heap_cells x = x.0

abbrev pub stack_cells : Cells → List ℕ
stack_cells x = x.1

-- each is twice as long as its area
unfoldable pub right_cells : Map → Cells → Bool
right_cells m x = eqb (length (heap_cells x)) (2 * m.heap_size) && eqb (length (stack_cells x)) (2 * m.stack_size)

abbrev pub zero_cells : Map → Cells
zero_cells m = cells (replicate (2 * m.heap_size) 0) (replicate (2 * m.stack_size) 0)

-- ---- the cell of an address a of the heap or of the stack

abbrev pub shadow_of : Map → Cells → (a : ℕ) → List ℕ
shadow_of m x a = cond (in_heap m a) (heap_cells x) (stack_cells x)

abbrev pub start_of : Map → (a : ℕ) → ℕ
start_of m a = cond (in_heap m a) m.heap_start m.stack_start

-- the position of the cell's eight bytes. Under a good map the area's start is a multiple of 8, so that a cell begins at a multiple of 4 by position too
abbrev pub cell_at : Map → (a : ℕ) → ℕ
cell_at m a = let p = a - start_of m a in 2 * (p - p % 4)

abbrev pub origin_at : Map → Cells → (a : ℕ) → ℕ
origin_at m x a = word (at (shadow_of m x a)) (cell_at m a) 4

abbrev pub referent_at : Map → Cells → (a : ℕ) → ℕ
referent_at m x a = word (at (shadow_of m x a)) (cell_at m a + 4) 4

-- ---- what changes: the shadow of the area of a, and the other stays

abbrev pub change : Map → Cells → (a : ℕ) → (List ℕ → List ℕ) → Cells
change m x a new = cond {A = Cells} (in_heap m a) (cells (new (heap_cells x)) (stack_cells x)) (cells (heap_cells x) (new (stack_cells x)))

-- the four bytes from position q on become a number
abbrev pub store : (q value : ℕ) → List ℕ → List ℕ
store q value h = over q 4 (λ i. byte_of value (i - q)) h

abbrev pub set_origin : Map → Cells → (a value : ℕ) → Cells
set_origin m x a value = change m x a (store (cell_at m a) value)

abbrev pub set_referent : Map → Cells → (a value : ℕ) → Cells
set_referent m x a value = change m x a (store (cell_at m a + 4) value)

-- the cell at c touches the block: one of its four bytes is one of the block's
abbrev pub touches : (base L c : ℕ) → Bool
touches base L c = ltb c (base + L) && ltb base (c + 4)

-- each cell that touches the block becomes zero, origin and referent. Byte q of an area's cells belongs to the cell at start + 4 × ⌊q / 8⌋
unfoldable pub without_cells : Map → Cells → (base L : ℕ) → Cells
without_cells m x base L =
    change m x base (λ h. tab 0 (length h) (λ q. cond (touches base L (start_of m base + 4 * (q / 8))) 0 (at h q)))

-- ---- the image: each cell holds its origin and its referent, 0 where it has none

abbrev pub cell_byte : (origin referent : ℕ → ℕ) → (c i : ℕ) → ℕ
cell_byte origin referent c i = cond (ltb i 4) (byte_of (origin c) i) (byte_of (referent c) (i - 4))

unfoldable pub cells_image : Map → (origin referent : ℕ → ℕ) → Cells
cells_image m origin referent =
    cells
    (tab 0 (2 * m.heap_size) (λ q. cell_byte origin referent (m.heap_start + 4 * (q / 8)) (q % 8)))
    (tab 0 (2 * m.stack_size) (λ q. cell_byte origin referent (m.stack_start + 4 * (q / 8)) (q % 8)))
