-- Where an address lies: what is read there. What the calls that tell of addresses answer to readings, once map and lengths are right.
-- Assumes nothing.
use Rattle.std.specs.Prelude.{◌≡◌, Bool, false, cond, not, ◌&&◌, ◌||◌, List, ℕ, ◌%◌, ◌≤◌, ◌<◌, length}
use Rattle.number.specs.Parts.{at}
use Rattle.map.specs.declared.Map.{Map}
use Rattle.plain.specs.Call as plain
use Rattle.plain.specs.Call.{answer, refusal, yes_no}
use Rattle.plain.specs.declared.Reading as code
use Rattle.plain.specs.declared.Reading.TheVariants as case
use Rattle.plain.specs.Reading.{Reading, nothing, block, damaged}
use Rattle.plain.specs.ShadowCalls.{is_damaged, in_one, is_literal, same_block}
use Rattle.heap_layout.specs.Reading.{heap_reading}
use Rattle.stack_layout.specs.Reading.{stack_reading}
use Rattle.map.specs.declared.Located.{Located}
use Rattle.map.specs.declared.Located.TheVariants.{Heap, Stack, Outside}

-- the position lies in the area's shadows, whose lengths are those of a good map
abbrev pub There : (G : ℕ) → Located → (heap primary secondary : List ℕ) → Type 0
There G (Heap q) h p s = (q.0 < length h) × (length h % G ≡ 0) × (length h ≤ 131072)
There G (Stack q) h p s = (q.0 < length p) × (length p ≡ length s) × (length p ≤ 65536)
There G Outside h p s = Unit {0}

-- the reading there, by positions, and where the area begins from which they count
abbrev pub reading_at : (W G : ℕ) → Located → (heap primary secondary : List ℕ) → Reading
reading_at W G (Heap q) h p s = heap_reading W G (length h) (at h) q.0
reading_at W G (Stack q) h p s = stack_reading (length p) (at p) (at s) q.0
reading_at W G Outside h p s = nothing

abbrev pub origin_of : Map → Located → ℕ
origin_of m (Heap q) = m.heap_start
origin_of m (Stack q) = m.stack_start
origin_of m Outside = 0

-- the reading of an address that lies in an area
abbrev pub ask_reading : Reading → plain.Answer
ask_reading nothing = refusal 7
ask_reading (block base length offset written literal) = answer 0 base length offset written
ask_reading damaged = refusal 8

-- the reading of the first of n bytes, and that of the byte whose block they are to lie in; where the bytes are to be written, no literal
unfoldable pub valid_answer : (write : Bool) (n : ℕ) → Reading → Reading → plain.Answer
valid_answer w n r q = cond (is_damaged r || is_damaged q) (refusal 8) (yes_no (in_one n r && same_block r q && not (w && is_literal r)))

-- two readings, where no block holds the bytes that are asked for
unfoldable pub apart_answer : Reading → Reading → plain.Answer
apart_answer r q = cond (is_damaged r || is_damaged q) (refusal 8) (yes_no false)

-- the reading of the first of n bytes, and whether all of them are written
unfoldable pub initialised_answer : (n : ℕ) → Reading → Bool → plain.Answer
initialised_answer n r t = cond (is_damaged r) (refusal 8) (yes_no (in_one n r && t))

-- a block that a reading tells begins below this position
abbrev pub base_below : code.Reading → ℕ → Type 0
base_below case.Nothing n = Unit {0}
base_below (case.Block base length offset bits) n = base.0 < n
base_below case.Damaged n = Unit {0}
