-- Document 01, the map and the shadows. Assumes nothing.
use Rattle.std.specs.Prelude.{Bool, not, ◌&&◌, ◌||◌, List, ℕ, ◌+◌, ◌-◌, ◌%◌, max, leb, ltb, eqb, length, replicate}
use Rattle.specification.specs.Numbers.{at}
pub use Rattle.types.specs.Map.{Map}
pub use Rattle.types.specs.Shadows.{Shadows, shadows, heap_of, primary_of, secondary_of}

-- ---- the rules of a map

-- the largest heap and stack, and the largest sum of start and size
abbrev pub most_heap : ℕ
most_heap = 131072

abbrev pub most_stack : ℕ
most_stack = 65536

abbrev pub most_end : ℕ
most_end = 4294967295

-- the address after an area's last one
abbrev pub heap_end : Map → ℕ
heap_end m = m.heap_start + m.heap_size

abbrev pub stack_end : Map → ℕ
stack_end m = m.stack_start + m.stack_size

-- one of the areas ends before the other starts, or where it starts: they share no byte
abbrev pub are_apart : Map → Bool
are_apart m = leb (heap_end m) m.stack_start || leb (stack_end m) m.heap_start

-- a good map of the player: each of the four numbers a multiple of 8,
unfoldable pub good : Map → Bool
good m =
    eqb (m.heap_size % 8) 0 && eqb (m.stack_size % 8) 0 && eqb (m.heap_start % 8) 0 && eqb (m.stack_start % 8) 0
    -- the least and the largest size of heap and stack,
    && leb 16 m.heap_size && leb m.heap_size most_heap && leb 16 m.stack_size && leb m.stack_size most_stack
    -- the least start, the greatest end,
    && leb 8 m.heap_start && leb 8 m.stack_start && leb (heap_end m) most_end && leb (stack_end m) most_end
    && are_apart m

-- ---- addresses

abbrev pub in_heap : Map → (a : ℕ) → Bool
in_heap m a = leb m.heap_start a && ltb a (heap_end m)

abbrev pub in_stack : Map → (a : ℕ) → Bool
in_stack m a = leb m.stack_start a && ltb a (stack_end m)

-- in neither area
abbrev pub outside : Map → (a : ℕ) → Bool
outside m a = not (in_heap m a || in_stack m a)

-- the higher of the two ends
abbrev pub end_of_areas : Map → ℕ
end_of_areas m = max (heap_end m) (stack_end m)

-- the position of an address of the heap, of the stack: addresses and positions count from different origins
abbrev pub heap_position : Map → (a : ℕ) → ℕ
heap_position m a = a - m.heap_start

abbrev pub stack_position : Map → (a : ℕ) → ℕ
stack_position m a = a - m.stack_start

-- ---- the three shadows

-- each is as long as its area
unfoldable pub right_lengths : Map → Shadows → Bool
right_lengths m s =
    eqb (length (heap_of s)) m.heap_size && eqb (length (primary_of s)) m.stack_size && eqb (length (secondary_of s)) m.stack_size

-- cleared shadows
abbrev pub zeroed : Map → Shadows
zeroed m = shadows (replicate m.heap_size 0) (replicate m.stack_size 0) (replicate m.stack_size 0)

-- the shadow byte of an address of the heap
abbrev pub heap_at : Map → (heap : List ℕ) → (a : ℕ) → ℕ
heap_at m h a = at h (heap_position m a)
