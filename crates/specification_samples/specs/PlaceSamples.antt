-- S-6, samples of place: on given shadows under the sample map (heap 4096 to 4159, eight segments), in a run, and at the end of all addresses. Proved
-- in proofs/Samples.antt. Assumes nothing.
use Rattle.std.specs.Prelude.{◌≡◌, true, List, [], ◌∷◌, ℕ}
use Rattle.types.specs.Call.{record_block, free, audit, place, Answer, answer, refusal, done}
use Rattle.specification.specs.Map.{Map}
use Rattle.specification.specs.Heap.{player}
use Rattle.specification_samples.specs.Samples.{Part, Sample, map_of, sample_map, all_hold, one, zeros8}
use Rattle.specification_samples.specs.GivenShadows.{Given, all_given}

-- heap shadow bytes that are 1, and place of a length with a budget
abbrev ones : List ℕ → List Part
ones [] = []
ones (q ∷ qs) = (q, 1 ∷ []) ∷ ones qs

abbrev placing : List ℕ → (l k : ℕ) → Answer → Given
placing qs l k r = record { heap = ones qs; primary = []; secondary = []; asks = place l k; gets = r }

unfoldable pub places : List Given
places =
    -- a free heap is one gap, and its base is its second segment; budget 0 looks at none, and length 0 comes first
    placing [] 8 0 (refusal 14)
    ∷ placing [] 0 0 (refusal 3)
    ∷ placing [] 0 9 (refusal 3)
    ∷ placing [] 56 1 (answer 0 4104 1 0 0)
    ∷ placing [] 57 9 (refusal 14)
    -- whole segments: the surplus is in bytes
    ∷ placing [] 1 9 (answer 0 4104 1 48 0)
    ∷ placing [] 8 9 (answer 0 4104 1 48 0)
    ∷ placing [] 9 9 (answer 0 4104 1 40 0)
    -- lengths and budgets of 32 bits, in whole numbers
    ∷ placing [] 4294967295 9 (refusal 14)
    ∷ placing [] 4294967288 9 (refusal 14)
    ∷ placing [] 4294967280 9 (refusal 14)
    ∷ placing [] 8 4294967295 (answer 0 4104 1 48 0)
    -- the lowest among equals, and the count goes on behind an exact fit
    ∷ placing (16 ∷ 40 ∷ []) 4 1 (answer 0 4104 1 0 0)
    ∷ placing (16 ∷ 40 ∷ []) 4 2 (answer 0 4104 2 0 0)
    ∷ placing (16 ∷ 40 ∷ []) 4 9 (answer 0 4104 3 0 0)
    -- the smallest, wherever it stands; a gap of one segment fits nothing and is counted
    ∷ placing (24 ∷ 48 ∷ []) 4 9 (answer 0 4136 3 0 0)
    ∷ placing (24 ∷ 48 ∷ []) 4 1 (answer 0 4104 1 8 0)
    ∷ placing (24 ∷ 48 ∷ []) 9 9 (answer 0 4104 3 0 0)
    ∷ placing (24 ∷ 48 ∷ []) 17 9 (refusal 14)
    ∷ placing (8 ∷ 40 ∷ []) 4 9 (answer 0 4152 3 0 0)
    ∷ placing (8 ∷ 40 ∷ []) 4 2 (answer 0 4120 2 8 0)
    ∷ placing (8 ∷ 40 ∷ []) 4 1 (refusal 14)
    -- the lowest among equals that are no exact fit
    ∷ placing (24 ∷ 56 ∷ []) 4 9 (answer 0 4104 2 8 0)
    -- any byte of a segment ends the gap, whatever it is and whatever a reading would say
    ∷ placing (31 ∷ []) 4 9 (answer 0 4104 2 8 0)
    ∷ placing (32 ∷ []) 4 9 (answer 0 4144 2 8 0)
    ∷ placing (33 ∷ []) 4 9 (answer 0 4144 2 8 0)
    ∷ placing (34 ∷ []) 4 9 (answer 0 4144 2 8 0)
    ∷ placing (35 ∷ []) 4 9 (answer 0 4144 2 8 0)
    ∷ placing (36 ∷ []) 4 9 (answer 0 4144 2 8 0)
    ∷ placing (37 ∷ []) 4 9 (answer 0 4144 2 8 0)
    ∷ placing (38 ∷ []) 4 9 (answer 0 4144 2 8 0)
    ∷ placing (39 ∷ []) 4 9 (answer 0 4144 2 8 0)
    ∷ record { heap = (32, 128 ∷ []) ∷ []; primary = []; secondary = []; asks = place 4 9; gets = answer 0 4144 2 8 0 }
    -- the stack plays no part, damaged or not
    ∷ record { heap = []; primary = (0, 2 ∷ []) ∷ []; secondary = (0, 1 ∷ []) ∷ []; asks = place 56 1; gets = answer 0 4104 1 0 0 }
    -- no gap at all; two gaps of one segment
    ∷ placing (0 ∷ 8 ∷ 16 ∷ 24 ∷ 32 ∷ 40 ∷ 48 ∷ 56 ∷ []) 1 9 (refusal 14)
    ∷ placing (8 ∷ 16 ∷ 24 ∷ 32 ∷ 40 ∷ 48 ∷ []) 1 9 (refusal 14)
    -- at the heap's end
    ∷ placing (0 ∷ 8 ∷ 16 ∷ 24 ∷ 32 ∷ 40 ∷ []) 8 9 (answer 0 4152 1 0 0)
    ∷ placing (0 ∷ 8 ∷ 16 ∷ 24 ∷ 32 ∷ 40 ∷ []) 9 9 (refusal 14)
    ∷ []

-- blocks, headers and a last segment that is not full; what free leaves
unfoldable pub places_in_run : List Sample
places_in_run =
    record {
      calls =
          record_block 4104 20 ∷ place 4 9 ∷ record_block 4136 4 ∷ place 4 9 ∷ free 4104 ∷ place 4 9 ∷ place 4 1 ∷ audit ∷ [];
      answers =
          done ∷ answer 0 4136 1 16 0 ∷ done ∷ answer 0 4152 1 0 0 ∷ done ∷ answer 0 4152 2 0 0 ∷ answer 0 4104 1 16 0 ∷ answer 0 1 0 4 0 ∷ [];
      heap = (24, zeros8);
      primary = (0, []);
      secondary = (0, []);
    }
    ∷ []

-- a heap of two segments at the end of all addresses
abbrev pub top_map : Map
top_map = map_of 4294967272 16 8192 16

unfoldable pub places_at_top : List Sample
places_at_top = one (place 8 1) (answer 0 4294967280 1 0 0) ∷ one (place 9 1) (refusal 14) ∷ one (place 4294967295 1) (refusal 14) ∷ []

-- every sample holds
abbrev pub PlaceSamplesHold : Type 0
PlaceSamplesHold = (all_given player sample_map places ≡ true) × (all_hold player sample_map places_in_run ≡ true) × (all_hold player top_map places_at_top ≡ true)
