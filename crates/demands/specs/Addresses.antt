-- An address under a map: its area, and its reading. Written out of the form's sizes, the map's four numbers and the two layouts' readings, for the demands.
-- Assumes nothing.
use Rattle.std.specs.Prelude.{Bool, cond, not, ◌&&◌, ℕ, ◌+◌, ◌*◌, ◌-◌, ◌/◌, ◌%◌, max}
use Rattle.number.specs.Parts.{at}
use Rattle.map.specs.FormMap.{FormMap}
use Rattle.map.specs.Map.{within}
use Rattle.plain.specs.Reading.{Reading, nothing}
use Rattle.plain.specs.Lift.{reading_up}
use Rattle.heap_layout.specs.Reading.{heap_reading}
use Rattle.stack_layout.specs.Reading.{stack_reading}
use Rattle.shadows.specs.Shadows.{Shadows}

-- ---- the area of an address

abbrev pub in_heap : FormMap → ℕ → Bool
in_heap m a = within m.heap_start m.heap_size a

abbrev pub in_stack : FormMap → ℕ → Bool
in_stack m a = within m.stack_start m.stack_size a

-- "address in neither area"
abbrev pub outside : FormMap → ℕ → Bool
outside m a = not (in_heap m a) && not (in_stack m a)

-- the end of the areas: no address at or above it lies in one
abbrev pub end_of_areas : FormMap → ℕ
end_of_areas m = max (m.heap_start + m.heap_size) (m.stack_start + m.stack_size)

-- ---- the heap's written bits

-- where position p has its bit: "bit j for byte j of the segment", from the byte after the segment's number on
abbrev pub bit_position : FormMap → (p : ℕ) → ℕ
bit_position m p = p / m.segment * m.segment + (m.width + p % m.segment / 8)

-- ---- the reading of an address

-- by the layout of its area, at position = address − area start. "An address outside both areas is in no block"
abbrev pub reading_at : FormMap → Shadows → ℕ → Reading
reading_at m s a =
    cond (in_heap m a) (reading_up m.heap_start (heap_reading m.width m.segment m.heap_size (at s.0) (a - m.heap_start)))
    (cond (in_stack m a) (reading_up m.stack_start (stack_reading m.stack_size (at s.1.0) (at s.1.1) (a - m.stack_start)))
    nothing)
