-- S-6: a place for the next heap block. Assumes nothing.
use Rattle.std.specs.Prelude.{Bool, true, false, cond, List, [], ◌∷◌, ◌++◌, ℕ, zero, suc, ◌+◌, ◌*◌, ◌-◌, ◌/◌, length, take, leb, eqb}
use Rattle.std.proofs.Math.Option.{Option, none, some}
use Rattle.types.specs.Gap.{Gap}
use Rattle.types.specs.Call.{Answer, answer, done}
use Rattle.specification.specs.Numbers.{at, zeros}
use Rattle.specification.specs.Map.{Map, Shadows, heap_of}
use Rattle.specification.specs.Form.{Form}
use Rattle.specification.specs.Footprint.{place_length}
use Rattle.specification.specs.Calls.{refuse}

-- ---- the gaps, in address order

-- the r free segments before segment i are a gap, unless there are none
abbrev pub ended : Form → Map → (i r : ℕ) → List Gap
ended F m i zero = []
ended F m i (suc r) = record { start = m.heap_start + (i - suc r) * F.segment; bytes = suc r * F.segment } ∷ []

-- n segments are left, from segment i on, and r free ones stand right before i
unfoldable pub gaps_from : Form → Map → (is_free : ℕ → Bool) → (n i r : ℕ) → List Gap
gaps_from F m is_free zero i r = ended F m i r
gaps_from F m is_free (suc n) i r = cond (is_free i) (gaps_from F m is_free n (suc i) (suc r)) (ended F m i r ++ gaps_from F m is_free n (suc i) 0)

-- a segment is free whose shadow bytes are all zero
abbrev pub gaps : Form → Map → (heap : List ℕ) → List Gap
gaps F m h = gaps_from F m (λ i. zeros (at h) (i * F.segment) F.segment) (m.heap_size / F.segment) 0 0

-- ---- the choice

-- g stands before the gaps that the other was chosen from, so that it wins unless that one is smaller
abbrev pub smaller : Gap → Option Gap → Option Gap
smaller g none = some g
smaller g (some h) = cond (leb g.bytes h.bytes) (some g) (some h)

-- the smallest gap that holds so many bytes, the lowest among equals
unfoldable pub best : (need : ℕ) → List Gap → Option Gap
best need [] = none
best need (g ∷ gs) = cond (leb need g.bytes) (smaller g (best need gs)) (best need gs)

abbrev pub is_none : Option Gap → Bool
is_none none = true
is_none (some g) = false

-- ---- place: no kind

-- the gap's second segment; how many gaps were looked at; the bytes that header and segments leave over. Where no gap fits the call is refused, and this
-- is not asked
abbrev pub place_fields : Form → (L looked : ℕ) → Option Gap → Answer
place_fields F L looked none = done
place_fields F L looked (some g) = answer 0 (g.start + F.segment) looked (g.bytes - place_length F L) 0

-- of the first `budget` gaps, or of all where there are fewer. 14: none of them has room for header and block
unfoldable pub place : Form → Map → (length budget : ℕ) → Shadows → Shadows × Answer
place F m L budget s =
    let looked = take budget (gaps F m (heap_of s)) in
    let chosen = best (place_length F L) looked in
    refuse F m s ((3, eqb L 0) ∷ (14, is_none chosen) ∷ []) (s, place_fields F L (length looked) chosen)
