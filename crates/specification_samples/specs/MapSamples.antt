-- Tables of samples for 1, a bad map, and 2, a shadow of a wrong length: each rule of a map broken alone, each at its edge, and several broken. They say
-- so of every call, with any arguments. Proved in proofs/MapSamples.antt. Assumes nothing.
use Rattle.std.specs.Prelude.{◌≡◌, List, [], ◌∷◌, ℕ, replicate}
use Rattle.number.specs.Parts.{Each}
use Rattle.types.specs.Call.{Call, clear, refusal, done}
use Rattle.specification.specs.Map.{Map, Shadows, shadows, zeroed}
use Rattle.specification.specs.Heap.{player}
use Rattle.specification.specs.Call.{call}
use Rattle.specification_samples.specs.Samples.{map_of, sample_map}

-- maps that break one rule each, which is named before them; the last breaks several
unfoldable pub bad_maps : List Map
bad_maps =
    -- 8 divides the starts and the sizes
    map_of 4100 64 8192 32
    ∷ map_of 4097 64 8192 32
    ∷ map_of 4096 68 8192 32
    ∷ map_of 4096 65 8192 32
    ∷ map_of 4096 64 8196 32
    ∷ map_of 4096 64 8199 32
    ∷ map_of 4096 64 8192 36
    ∷ map_of 4096 64 8192 31
    -- the heap's sizes, from 16 to 131,072
    ∷ map_of 4096 0 8192 32
    ∷ map_of 4096 8 8192 32
    ∷ map_of 4096 131080 262144 32
    -- the stack's, from 16 to 65,536
    ∷ map_of 4096 64 8192 0
    ∷ map_of 4096 64 8192 8
    ∷ map_of 4096 64 8192 65544
    -- no area starts below 8
    ∷ map_of 0 64 8192 32
    ∷ map_of 4096 64 0 32
    -- an area's start and size add up to 4,294,967,295 at most
    ∷ map_of 4294967280 16 8192 32
    ∷ map_of 4294967232 64 8192 32
    ∷ map_of 4096 64 4294967280 16
    ∷ map_of 4096 64 4294967288 32
    -- areas with a byte in common: the end of one and the start of the other, one within the other, equal starts, equal areas
    ∷ map_of 4096 64 4152 32
    ∷ map_of 4120 64 4096 32
    ∷ map_of 4096 64 4112 16
    ∷ map_of 4104 16 4096 32
    ∷ map_of 4096 64 4096 32
    ∷ map_of 4096 32 4096 32
    -- no map yet: sizes below 16 and starts below 8
    ∷ map_of 0 0 0 0
    ∷ []

-- maps that keep every rule, at the edges
unfoldable pub good_maps : List Map
good_maps =
    sample_map
    -- multiples of 8 that are none of 16
    ∷ map_of 4104 72 8200 40
    -- least and greatest sizes
    ∷ map_of 4096 16 8192 32
    ∷ map_of 4096 131072 262144 32
    ∷ map_of 4096 64 8192 16
    ∷ map_of 4096 64 8192 65536
    ∷ map_of 4096 131072 262144 65536
    -- least starts
    ∷ map_of 8 64 8192 32
    ∷ map_of 4096 64 8 32
    -- the last multiple of 8 that start + size may be
    ∷ map_of 4294967272 16 8192 32
    ∷ map_of 4294836216 131072 8192 32
    ∷ map_of 4096 64 4294967272 16
    ∷ map_of 4096 64 4294901752 65536
    -- areas that touch, in either order
    ∷ map_of 4096 64 4160 32
    ∷ map_of 4128 64 4096 32
    ∷ []

-- shadows of zeros, of these lengths
abbrev pub zeros_of : (heap primary secondary : ℕ) → Shadows
zeros_of h p s = shadows (replicate h 0) (replicate p 0) (replicate s 0)

-- each of the three lengths one short and one long for the sample map's areas, of 64 and 32 bytes; none, and all exchanged
unfoldable pub wrong_lengths : List Shadows
wrong_lengths =
    zeros_of 63 32 32 ∷ zeros_of 65 32 32 ∷ zeros_of 64 31 32 ∷ zeros_of 64 33 32 ∷ zeros_of 64 32 31 ∷ zeros_of 64 32 33 ∷ zeros_of 0 0 0 ∷ zeros_of 32 64 64 ∷ []

-- 1 for every call on any shadows under a map that breaks a rule, also where 2 holds too; under a good map 2 for every call on shadows that
-- have no bytes; under the sample map 2 for every call on each of the wrong lengths, and clear is accepted on the right ones
abbrev pub MapSamplesHold : Type 0
MapSamplesHold =
    Each (λ (m : Map). (c : Call) (s : Shadows) → call player m c s ≡ (s, refusal 1)) bad_maps
    × Each (λ (m : Map). (c : Call) → call player m c (zeros_of 0 0 0) ≡ (zeros_of 0 0 0, refusal 2)) good_maps
    × Each (λ (s : Shadows). (c : Call) → call player sample_map c s ≡ (s, refusal 2)) wrong_lengths
    × (call player sample_map clear (zeros_of 64 32 32) ≡ (zeroed sample_map, done))
