-- The rules of a map, the area of an address, and an area's start and end. Whole numbers: no sum wraps. Assumes nothing.
use Rattle.std.specs.Prelude.{ℕ, ◌+◌, ◌%◌, Bool, cond, ◌&&◌, ◌||◌, ◌==◌, nat_le, nat_lt}
use Rattle.map.specs.declared.Map.{Map}
use Rattle.map.specs.declared.Area.{Area}
use Rattle.map.specs.declared.Area.TheVariants.{Heap, Stack, Outside}
use Rattle.map.specs.FormMap.{FormMap}

-- start and size are multiples of `unit`, the start at least that, the size at least twice that
abbrev pub in_units : (unit start size : ℕ) → Bool
in_units unit start size = nat_le unit start && start % unit == 0 && size % unit == 0 && nat_le (unit + unit) size

-- besides, the size is at most `most`, and the end at most 4,294,967,295
unfoldable pub good_area : (unit start size most : ℕ) → Bool
good_area unit start size most = in_units unit start size && nat_le size most && nat_le (start + size) 4294967295

-- two areas share no byte
unfoldable pub apart : (start size start' size' : ℕ) → Bool
apart start size start' size' = nat_le (start + size) start' || nat_le (start' + size') start

-- the heap's multiples are of the form's segment, the stack's of 8 in every form
unfoldable pub good_map : FormMap → Bool
good_map m =
    good_area m.segment m.heap_start m.heap_size 131072 && good_area 8 m.stack_start m.stack_size 65536
    && apart m.heap_start m.heap_size m.stack_start m.stack_size

-- the address is one of the area's
abbrev pub within : (start size a : ℕ) → Bool
within start size a = nat_le start a && nat_lt a (start + size)

unfoldable pub area_of : Map → ℕ → Area
area_of m a =
    cond (within m.heap_start m.heap_size a) Heap
    (cond (within m.stack_start m.stack_size a) Stack Outside)

-- where an area starts, and where it ends; 0, which is never used, where there is none
unfoldable pub start_of : Map → Area → ℕ
start_of m Heap = m.heap_start
start_of m Stack = m.stack_start
start_of m Outside = 0

unfoldable pub end_of : Map → Area → ℕ
end_of m Heap = m.heap_start + m.heap_size
end_of m Stack = m.stack_start + m.stack_size
end_of m Outside = 0
