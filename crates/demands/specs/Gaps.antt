-- Request S-6: the gaps of the heap shadow, by its bytes. Written for the demands, of their own beside the gaps by which place goes
-- (`plain/Gaps`). Assumes nothing.
use Rattle.std.specs.Prelude.{Bool, not, ◌&&◌, ℕ, zero, suc, ◌+◌, ◌*◌, ◌-◌, ◌/◌, ltb}
use Rattle.number.specs.Bits.{bit}
use Rattle.number.specs.Parts.{at, zeros, run_of}
use Rattle.map.specs.FormMap.{FormMap}
use Rattle.plain.specs.Areas.{segments}
use Rattle.shadows.specs.Shadows.{Shadows}

-- how many segments the heap has
abbrev pub heap_segments : FormMap → ℕ
heap_segments m = m.heap_size / m.segment

-- segment i of the heap shadow is all zero
abbrev pub is_zero : FormMap → Shadows → (i : ℕ) → Bool
is_zero m s i = zeros (at s.0) (i * m.segment) m.segment

-- a run begins at place i: that passes the test, and the one before it, if there is one, does not
abbrev pub begins_run : (ℕ → Bool) → (i : ℕ) → Bool
begins_run f zero = f 0
begins_run f (suc i) = f (suc i) && not (f i)

-- how many runs begin before place i
unfoldable pub runs_below : (ℕ → Bool) → (i : ℕ) → ℕ
runs_below f zero = 0
runs_below f (suc i) = runs_below f i + bit (begins_run f i)

-- a gap begins at segment i; how many begin before it
abbrev pub begins_gap : FormMap → Shadows → (i : ℕ) → Bool
begins_gap m s i = begins_run (is_zero m s) i

abbrev pub gaps_below : FormMap → Shadows → (i : ℕ) → ℕ
gaps_below m s i = runs_below (is_zero m s) i

-- how many segments the gap has that begins at segment i: those from i on up to the first that is not all zero, or up to the heap's end
abbrev pub gap_size : FormMap → Shadows → (i : ℕ) → ℕ
gap_size m s i = run_of (is_zero m s) i (heap_segments m - i)

-- "that many gaps or at all, whichever is fewer", in address order: a gap begins at segment i, and fewer than k begin before it
abbrev pub is_looked : FormMap → Shadows → (k i : ℕ) → Bool
is_looked m s k i = begins_gap m s i && ltb (gaps_below m s i) k

-- "the header and the block's whole segments", in bytes (`Places.WholeSegments` says what these are)
abbrev pub place_bytes : FormMap → (l : ℕ) → ℕ
place_bytes m l = m.segment + segments m.segment l * m.segment
