-- S-4: each call of the form with origins, on the three block shadows, the cells and the counter, for any bytes. The plain kinds are the player's
-- (`call player`), those of later requests too; kinds 11 to 13 are this form's own. Assumes nothing.
use Rattle.std.specs.Prelude.{Bool, not, ◌&&◌, ◌||◌, List, [], ◌∷◌, ℕ, zero, suc, ◌%◌, leb, eqb}
use Rattle.types.specs.Reading.{Reading, nothing, block, damaged}
use Rattle.types.specs.Call as plains
use Rattle.types.specs.Call.{clear, begin, free, remove, written, ask, valid, initialised, next, audit, place, Answer, number, done, yes_no, Refusal, first_of, unless}
use Rattle.types.specs.Origins.{Call, plain, point, copy, live, State}
use Rattle.specification.specs.Map.{Map, Shadows, good, right_lengths, outside}
use Rattle.specification.specs.Heap.{player}
use Rattle.specification.specs.Readings.{is_damaged, in_one, length_of}
use Rattle.specification.specs.Readings as readings
use Rattle.specification.specs.Call as Plain-Form
use Rattle.specification_origins.specs.Cells.{Cells, right_cells, zero_cells, origin_at, referent_at, set_origin, set_referent, without_cells}

-- block shadows, cells, counter
abbrev pub Lent : Type 0
Lent = State Shadows Cells

-- 1; 2 for the cells' lengths too; then the call's own numbers. A refused call alters no byte and leaves the counter
abbrev pub refuse : Map → Lent → List Refusal → Lent × Answer → Lent × Answer
refuse m x own does = unless (first_of ((1, not (good m)) ∷ (2, not (right_lengths m x.shadows) || not (right_cells m x.cells)) ∷ own)) x does

-- ---- the plain kinds

-- what a plain kind is to cells and counter
pub data Does : Type 0 where
  records : (base L : ℕ) → Does
  ends : (base : ℕ) → Does
  clears : Does
  leaves : Does

-- kinds 2, 10 and 14 record a block. Kind 3 ends one, but for S-2's address 0, and so does S-7's kind 16
abbrev pub does : plains.Call → Does
does clear = clears
does (begin how base L) = records base L
does (free zero) = leaves
does (free (suc x)) = ends (suc x)
does (remove base) = ends base
does (written a n) = leaves
does (ask a) = leaves
does (valid write a n from) = leaves
does (initialised a n) = leaves
does (next a) = leaves
does audit = leaves
does (place L budget) = leaves

-- origins run from 1 to this
abbrev pub last_origin : ℕ
last_origin = 4294967295

-- k is the plain form's number. A recording has two more: 5 also where the base is no multiple of 4, before the plain form's 6; and, after that 6, 12
-- where the counter is no origin
abbrev pub numbers : (k : ℕ) → Does → (counter : ℕ) → List Refusal
numbers k (records base L) counter =
    (k, leb 1 k && leb k 5) ∷ (5, not (eqb (base % 4) 0)) ∷ (k, not (eqb k 0)) ∷ (12, not (leb 1 counter && leb counter last_origin)) ∷ []
numbers k (ends base) counter = (k, not (eqb k 0)) ∷ []
numbers k clears counter = (k, not (eqb k 0)) ∷ []
numbers k leaves counter = (k, not (eqb k 0)) ∷ []

-- a recording stores the counter as the origin in the cell of the base; the end of a block zeroes the cells that touch it; clear zeroes all
abbrev pub cells_after : Map → Does → Lent → Cells
cells_after m (records base L) x = set_origin m x.cells base x.counter
cells_after m (ends base) x = without_cells m x.cells base (length_of (readings.reading player m x.shadows base))
cells_after m clears x = zero_cells m
cells_after m leaves x = x.cells

-- and then adds 1; nothing else changes the counter
abbrev pub counter_after : Does → (counter : ℕ) → ℕ
counter_after (records base L) k = suc k
counter_after (ends base) k = k
counter_after clears k = k
counter_after leaves k = k

-- r: the block shadows that the plain form leaves, and its answer
abbrev pub with_cells : Map → plains.Call → Lent → Shadows × Answer → Lent × Answer
with_cells m c x r =
    refuse m x (numbers (number r.1) (does c) x.counter)
    (record { shadows = r.0; cells = cells_after m (does c) x; counter = counter_after (does c) x.counter }, r.1)

-- ---- kinds 11 to 13

abbrev pub reading : Map → Lent → (a : ℕ) → Reading
reading m x a = readings.reading player m x.shadows a

-- 11: no multiple of 4, or not four bytes of one block
abbrev pub no_pointer : Map → Lent → (c : ℕ) → Bool
no_pointer m x c = not (eqb (c % 4) 0) || not (in_one 4 (reading m x c))

-- the origin of the block that is read, which stands in the cell of its base, or 0 where none is
abbrev pub origin_of : Map → Cells → Reading → ℕ
origin_of m y nothing = 0
origin_of m y (block base L offset bit literal) = origin_at m y base
origin_of m y damaged = 0

-- of kinds 11 and 13: 4 for the cell alone, 8 for the cell's first byte and for the address
abbrev pub pointer_numbers : Map → (c a : ℕ) → Lent → List Refusal
pointer_numbers m c a x = (4, outside m c) ∷ (8, is_damaged (reading m x c) || is_damaged (reading m x a)) ∷ (11, no_pointer m x c) ∷ []

-- of kind 12: both are pointer cells
abbrev pub copy_numbers : Map → (to from : ℕ) → Lent → List Refusal
copy_numbers m to from x =
    (4, outside m to || outside m from) ∷ (8, is_damaged (reading m x to) || is_damaged (reading m x from)) ∷ (11, no_pointer m x to || no_pointer m x from) ∷ []

-- a cell's referent changes; block shadows and counter stay
abbrev pub set_to : Map → Lent → (c value : ℕ) → Lent
set_to m x c value = record { shadows = x.shadows; cells = set_referent m x.cells c value; counter = x.counter }

-- kind 13, as the cells tell it: the cell has a referent, and the address is in a block of that origin
abbrev pub points_into : Map → Lent → (c a : ℕ) → Bool
points_into m x c a =
    let referent = referent_at m x.cells c in
    not (eqb referent 0) && eqb (origin_of m x.cells (reading m x a)) referent

-- ---- every call

unfoldable pub call : Map → Call → Lent → Lent × Answer
call m (plain c) x = with_cells m c x (Plain-Form.call player m c x.shadows)
call m (point c a) x = refuse m x (pointer_numbers m c a x) (set_to m x c (origin_of m x.cells (reading m x a)), done)
call m (copy to from) x = refuse m x (copy_numbers m to from x) (set_to m x to (referent_at m x.cells from), done)
call m (live c a) x = refuse m x (pointer_numbers m c a x) (x, yes_no (points_into m x c a))
