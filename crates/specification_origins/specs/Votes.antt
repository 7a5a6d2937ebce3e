-- What is promised of the form with origins, over the definitions of the specification alone, under one map m. Proved in crates/promises. It presumes what
-- the third demand does, that only these calls write cells and counter, and that cells begin as zeros. Assumes nothing.
use Rattle.std.specs.Prelude.{◌≡◌, ◌≢◌, Bool, true, false, not, ◌&&◌, ◌||◌, List, [], ◌∷◌, ℕ, suc, ◌+◌, ◌%◌, ◌≤◌, ◌<◌, length, leb, eqb}
use Rattle.number.specs.Little.{Bytes}
use Rattle.number.specs.Parts.{Each}
use Rattle.types.specs.Call as plains
use Rattle.types.specs.Call.{clear, Answer, answer, number, refusal, done, Refusal, first_of}
use Rattle.types.specs.Origins.{Call, plain, point, copy, live, OriginList}
use Rattle.specification.specs.Numbers.{bit}
use Rattle.specification.specs.Map.{Map, good, right_lengths, zeroed, outside}
use Rattle.specification.specs.Heap.{player}
use Rattle.specification.specs.Readings.{reading, is_damaged, in_one}
use Rattle.specification.specs.Blocks.{holds, has_base, any}
use Rattle.specification.specs.Image.{may_stand}
use Rattle.specification.specs.Call as Plain-Form
use Rattle.specification.specs.Table.{row3, row4, row5, row6, row7, row8, row13, row14, row15, when, never, neither}
use Rattle.specification.specs.Votes.{SameLengths, AllBytes}
use Rattle.specification_origins.specs.Cells.{Cells, heap_cells, stack_cells, right_cells, zero_cells, origin_at, referent_at}
use Rattle.specification_origins.specs.Origins.{Lent, last_origin, leaves, does, call}
use Rattle.specification_origins.specs.OriginsList.{on_origins, image_of}
use Rattle.specification_origins.specs.History.{History, judged}

abbrev pub number_of : Map → Call → Lent → ℕ
number_of m c x = number (call m c x).1

-- ---- demand 1

-- the rows of the table for the plain kinds: those of the plain form, with the cells' lengths in 2, a base that is no multiple of 4 in 5, and 12, after 6,
-- where a recording finds a counter that is no origin
abbrev pub rows : Map → plains.Call → Lent → List Refusal
rows m c x =
    let s = x.shadows in
    (1, not (good m)) ∷ (2, not (right_lengths m s) || not (right_cells m x.cells))
    ∷ (3, row3 c) ∷ (4, row4 player m c) ∷ (5, row5 player m c || when (λ base L. not (eqb (base % 4) 0)) never neither neither c) ∷ (6, row6 player m s c)
    ∷ (12, when (λ base L. not (leb 1 x.counter && leb x.counter last_origin)) never neither neither c)
    ∷ (15, row15 m c) ∷ (8, row8 player m s c) ∷ (7, row7 player m s c) ∷ (13, row13 player m s c) ∷ (14, row14 player m s c) ∷ []

pub record FirstVote (m : Map) : Type 0 where
  -- a refusal has zero fields, and leaves shadows, cells and counter
  pub refused_alters_nothing : (c : Call) (x : Lent) → number_of m c x ≢ 0 → call m c x ≡ (x, refusal (number_of m c x))
  -- a plain kind has the number of the first row that holds; where it is accepted, fields and block shadows are the plain form's
  pub by_the_table : (c : plains.Call) (x : Lent) → number_of m (plain c) x ≡ first_of (rows m c x)
  pub plain_accepted : (c : plains.Call) (x : Lent) → number_of m (plain c) x ≡ 0
      → ((call m (plain c) x).1 ≡ (Plain-Form.call player m c x.shadows).1) × ((call m (plain c) x).0.shadows ≡ (Plain-Form.call player m c x.shadows).0)
  -- lengths stay
  pub lengths_kept : (c : Call) (x : Lent)
      → SameLengths (call m c x).0.shadows x.shadows
      × (length (heap_cells (call m c x).0.cells) ≡ length (heap_cells x.cells)) × (length (stack_cells (call m c x).0.cells) ≡ length (stack_cells x.cells))

-- the rows for kinds 11 to 13: 11 and 13 have one pointer cell, 12 has two, and no address. The tests are those of Origins.antt; what is written again is
-- which call has which row, and the order
abbrev pub no_pointer_row : Map → Lent → (c : ℕ) → Bool
no_pointer_row m x c = not (eqb (c % 4) 0) || not (in_one 4 (reading player m x.shadows c))

abbrev pub pointer_rows : Map → (fourth : Bool) (c a : ℕ) (eleventh : Bool) → Lent → List Refusal
pointer_rows m fourth c a eleventh x =
    (1, not (good m)) ∷ (2, not (right_lengths m x.shadows) || not (right_cells m x.cells)) ∷ (4, fourth)
    ∷ (8, is_damaged (reading player m x.shadows c) || is_damaged (reading player m x.shadows a)) ∷ (11, eleventh) ∷ []

-- the recordings
abbrev pub is_recording : Call → Bool
is_recording (plain c) = when (λ base L. true) never neither neither c
is_recording (point c a) = false
is_recording (copy to from) = false
is_recording (live c a) = false

pub record PointerVote (m : Map) : Type 0 where
  pub point_number_lem : (c a : ℕ) (x : Lent) → number_of m (point c a) x ≡ first_of (pointer_rows m (outside m c) c a (no_pointer_row m x c) x)
  pub copy_number_lem : (to from : ℕ) (x : Lent)
      → number_of m (copy to from) x ≡ first_of (pointer_rows m (outside m to || outside m from) to from (no_pointer_row m x to || no_pointer_row m x from) x)
  pub live_number : (c a : ℕ) (x : Lent) → number_of m (live c a) x ≡ first_of (pointer_rows m (outside m c) c a (no_pointer_row m x c) x)
  -- they leave the block shadows, and live leaves everything; a plain kind that neither begins nor ends blocks, nor clears, leaves the cells. What else the
  -- calls do to cells, on bytes that are no image, is read off `call`
  pub point_leaves : (c a : ℕ) (x : Lent) → (call m (point c a) x).0.shadows ≡ x.shadows
  pub copy_leaves : (to from : ℕ) (x : Lent) → (call m (copy to from) x).0.shadows ≡ x.shadows
  pub live_leaves : (c a : ℕ) (x : Lent) → (call m (live c a) x).0 ≡ x
  pub cells_left : (c : plains.Call) (x : Lent) → does c ≡ leaves → (call m (plain c) x).0.cells ≡ x.cells
  -- the counter goes up by one with each accepted recording, and never else
  pub counter_after_lem : (c : Call) (x : Lent) → (call m c x).0.counter ≡ x.counter + bit (is_recording c && eqb (number_of m c x) 0)
  -- bytes stay bytes
  pub bytes_kept : (c : Call) (x : Lent) → AllBytes x.shadows → Bytes (heap_cells x.cells) → Bytes (stack_cells x.cells)
      → AllBytes (call m c x).0.shadows × Bytes (heap_cells (call m c x).0.cells) × Bytes (stack_cells (call m c x).0.cells)

-- ---- demand 3

-- cleared shadows and cells, with the counter at k, which is 1 at first; and the list of no block
abbrev pub first : Map → (k : ℕ) → Lent
first m k = record { shadows = zeroed m; cells = zero_cells m; counter = k }

abbrev pub first_list : (k : ℕ) → OriginList
first_list k = record { blocks = []; origin = λ c. 0; referent = λ c. 0; counter = k }

-- the answer and all that is lent after each call; and those of the list and its image
unfoldable pub lent_run : Map → Lent → List Call → List (Answer × Lent)
lent_run m x [] = []
lent_run m x (c ∷ cs) = let r = call m c x in (r.1, r.0) ∷ lent_run m r.0 cs

unfoldable pub list_run : Map → OriginList → List Call → List (Answer × Lent)
list_run m x [] = []
list_run m x (c ∷ cs) = let r = on_origins m c x in (r.1, image_of m r.0) ∷ list_run m r.0 cs

-- what is lent, and the list, after a list of calls
unfoldable pub reached : Map → Lent → List Call → Lent
reached m x [] = x
reached m x (c ∷ cs) = reached m (call m c x).0 cs

unfoldable pub list_reached : Map → OriginList → List Call → OriginList
list_reached m x [] = x
list_reached m x (c ∷ cs) = list_reached m (on_origins m c x).0 cs

-- the history of a list of calls, behind that of the calls before
unfoldable pub history_of : Map → Lent → (before : History) → List Call → History
history_of m x h [] = h
history_of m x h (c ∷ cs) = history_of m (call m c x).0 ((c, eqb (number_of m c x) 0) ∷ h) cs

-- what a list carries: blocks that may stand, at multiples of 4; an origin for each live block's base, from 1 to below the counter, all different, and
-- for nothing else; a referent only in a cell, a multiple of 4, whose four bytes lie in one block, below the counter; a counter from 1 to one past the
-- last origin
pub record Carries (m : Map) (x : OriginList) : Type 0 where
  pub stands : may_stand player m 0 x.blocks ≡ true
  pub based : (b : ℕ) → any (has_base b) x.blocks ≡ true → (b % 4 ≡ 0) × (1 ≤ x.origin b) × (x.origin b < x.counter)
  pub unbased : (b : ℕ) → any (has_base b) x.blocks ≡ false → x.origin b ≡ 0
  pub own : (b c : ℕ) → any (has_base b) x.blocks ≡ true → any (has_base c) x.blocks ≡ true → x.origin b ≡ x.origin c → b ≡ c
  pub pointed : (c : ℕ) → x.referent c ≢ 0 → (c % 4 ≡ 0) × (any (holds c 4) x.blocks ≡ true)
  pub known : (c : ℕ) → x.referent c < x.counter
  pub last : (1 ≤ x.counter) × (x.counter ≤ suc last_origin)

pub record ThirdVote (m : Map) : Type 0 where
  pub whole_run : good m ≡ true → (cs : List Call) → lent_run m (first m 1) cs ≡ list_run m (first_list 1) cs
  pub no_damage : good m ≡ true → (cs : List Call) → Each (λ (r : Answer × Lent). number r.0 ≢ 8) (lent_run m (first m 1) cs)
  -- after a clear, from any bytes of the right lengths, with the counter that was found
  pub cleared_run : good m ≡ true → (x : Lent) → right_lengths m x.shadows ≡ true → right_cells m x.cells ≡ true → 1 ≤ x.counter
      → x.counter ≤ suc last_origin → (cs : List Call) → lent_run m x (plain clear ∷ cs) ≡ list_run m (first_list x.counter) (plain clear ∷ cs)
  -- from what stands for every list that carries these, reached by calls or not; and the list goes on to carry them
  pub image_run : good m ≡ true → (x : OriginList) → Carries m x → (cs : List Call) → lent_run m (image_of m x) cs ≡ list_run m x cs
  pub first_carries : (k : ℕ) → 1 ≤ k → k ≤ suc last_origin → Carries m (first_list k)
  pub stays_carried : good m ≡ true → (x : OriginList) → Carries m x → (c : Call) → Carries m (on_origins m c x).0
  -- each cell holds the origin and the referent that the list has for it, which is 0 where it has none (Carries), wherever the counter stood at first
  pub cells_hold : good m ≡ true → (k : ℕ) → 1 ≤ k → k ≤ suc last_origin → (cs : List Call) (c : ℕ) → outside m c ≡ false → c % 4 ≡ 0
      → (origin_at m (reached m (first m k) cs).cells c ≡ (list_reached m (first_list k) cs).origin c)
      × (referent_at m (reached m (first m k) cs).cells c ≡ (list_reached m (first_list k) cs).referent c)
  -- kind 13 is judged by the history, whatever its number, for runs of any length, wherever the counter stood at first
  pub judged_by_history : good m ≡ true → (k : ℕ) → 1 ≤ k → k ≤ suc last_origin → (cs : List Call) (c a : ℕ)
      → let x = reached m (first m k) cs in
      (call m (live c a) x).1 ≡ answer (number_of m (live c a) x) (bit (judged (history_of m (first m k) [] cs) c a)) 0 0 0
