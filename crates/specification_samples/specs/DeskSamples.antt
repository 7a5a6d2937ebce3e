-- S-8, samples of the desk: segments of 16 bytes, numbers of eight. Under the sample map the heap, 4096 to 4159, has four segments; the stack is 8192 to
-- 8223. Proved in proofs/Samples.antt, the example of source 000 in proofs/DeskExample.antt, maps in proofs/MapSamples.antt. Assumes nothing.
use Rattle.std.specs.Prelude.{◌≡◌, true, List, [], ◌∷◌, ◌++◌, ℕ}
use Rattle.number.specs.Parts.{Each}
use Rattle.types.specs.Call.{Call, clear, record_block, record_written, record_literal, free, remove, written, ask, valid_write, valid_read, initialised, next, audit, place, Answer, answer, refusal, done}
use Rattle.specification.specs.Map.{Map, Shadows, in_heap}
use Rattle.specification.specs.Desk.{desk}
use Rattle.specification.specs.Call.{call}
use Rattle.specification.specs.Votes.{number_of}
use Rattle.specification_samples.specs.Samples.{Part, Sample, map_of, sample_map, all_hold, one, zeros8}
use Rattle.specification_samples.specs.GivenShadows.{Given, all_given}
use Rattle.specification_samples.specs.MapSamples.{zeros_of}

-- ---- the example of source 000: a block of 40 bytes at 0x100, in which 0x126 has offset 0x26; 0x12A is in no block

-- on whatever shadows and under whatever map such a block is recorded in the heap
abbrev pub DeskExample : Type 0
DeskExample =
    (m : Map) (s : Shadows) → number_of desk m (record_block 256 40) s ≡ 0 → in_heap m 256 ≡ true
    → let after = (call desk m (record_block 256 40) s).0 in
    ((call desk m (ask 294) after).1 ≡ answer 0 256 40 38 0) × ((call desk m (ask 298) after).1 ≡ refusal 7)

-- a heap for it: 0xF0 to 0x12F
abbrev pub example_map : Map
example_map = map_of 240 64 8192 32

-- ---- runs from cleared shadows

-- eight bytes of a number below 256
abbrev eight : ℕ → List ℕ
eight n = n ∷ 0 ∷ 0 ∷ 0 ∷ 0 ∷ 0 ∷ 0 ∷ 0 ∷ []

-- a segment: its number, and the two bytes of written bits
abbrev segment : (number low high : ℕ) → List ℕ
segment n a b = eight n ++ (a ∷ b ∷ 0 ∷ 0 ∷ 0 ∷ 0 ∷ 0 ∷ 0 ∷ [])

abbrev header : (length : ℕ) → List ℕ
header l = zeros8 ++ eight l

-- calls, their answers, and the heap shadow from position 0 on after them
abbrev leaves : List Call → List Answer → List ℕ → Sample
leaves cs rs h = record { calls = cs; answers = rs; heap = (0, h); primary = (0, []); secondary = (0, []) }

-- the example, with its bytes
unfoldable pub example : List Sample
example =
    leaves (record_block 256 40 ∷ ask 294 ∷ ask 298 ∷ ask 240 ∷ ask 255 ∷ []) (done ∷ answer 0 256 40 38 0 ∷ refusal 7 ∷ refusal 7 ∷ refusal 7 ∷ [])
    (header 40 ++ segment 1 0 0 ++ segment 17 0 0 ++ segment 33 0 0)
    ∷ []

unfoldable pub desk_runs : List Sample
desk_runs =
    -- header and bits of a block of 40, bytes 6 to 17 written: bits 6 and 7 of byte 8 and all of byte 9, then bits 0 and 1 of the next byte 8
    leaves (record_block 4112 40 ∷ written 4118 12 ∷ []) (done ∷ done ∷ []) (header 40 ++ segment 1 192 255 ++ segment 17 3 0 ++ segment 33 0 0)
    -- one byte at either side of byte 8 and byte 9, and of two segments
    ∷ leaves (record_block 4112 40 ∷ written 4119 1 ∷ written 4128 1 ∷ []) (done ∷ done ∷ done ∷ []) (header 40 ++ segment 1 128 0 ++ segment 17 1 0)
    ∷ leaves (record_block 4112 40 ∷ written 4120 1 ∷ written 4127 1 ∷ []) (done ∷ done ∷ done ∷ []) (header 40 ++ segment 1 0 129 ++ segment 17 0 0)
    ∷ leaves (record_block 4112 40 ∷ written 4119 2 ∷ written 4127 2 ∷ []) (done ∷ done ∷ done ∷ []) (header 40 ++ segment 1 128 129 ++ segment 17 1 0)
    -- a block that begins written: no bit is set past its end
    ∷ leaves (record_written 4112 27 ∷ []) (done ∷ []) (header 27 ++ segment 1 255 255 ++ segment 17 255 7 ++ segment 0 0 0)
    ∷ leaves (record_written 4112 3 ∷ []) (done ∷ []) (header 3 ++ segment 1 7 0 ++ segment 0 0 0)
    -- a block of 16 takes one segment, of 17 two
    ∷ leaves (record_block 4112 16 ∷ record_block 4144 16 ∷ []) (done ∷ done ∷ []) (header 16 ++ segment 1 0 0 ++ header 16 ++ segment 1 0 0)
    ∷ leaves (record_block 4112 17 ∷ record_block 4144 16 ∷ []) (done ∷ refusal 6 ∷ []) (header 17 ++ segment 1 0 0 ++ segment 17 0 0 ++ segment 0 0 0)
    -- the header's place: base ≥ heap start + 16, before 5; the end of the area
    ∷ one (record_block 4096 4) (refusal 4)
    ∷ one (record_block 4104 4) (refusal 4)
    ∷ one (record_block 4111 4) (refusal 4)
    ∷ one (record_block 4144 16) done
    ∷ one (record_block 4144 17) (refusal 4)
    ∷ one (record_block 4112 48) done
    ∷ one (record_block 4112 49) (refusal 4)
    -- bases that are multiples of 8 and not of 16
    ∷ one (record_block 4120 4) (refusal 5)
    ∷ one (record_block 4136 4) (refusal 5)
    ∷ one (record_written 4152 8) (refusal 5)
    ∷ one (record_literal 4112 4) (refusal 4)
    -- the stack is as it was: a long block's numbers have four bytes
    ∷ record {
      calls = record_block 8195 11 ∷ [];
      answers = done ∷ [];
      heap = (0, zeros8);
      primary = (2, 0 ∷ 192 ∷ 196 ∷ 200 ∷ 204 ∷ 208 ∷ 212 ∷ 216 ∷ 220 ∷ 224 ∷ 228 ∷ 232 ∷ 0 ∷ []);
      secondary = (2, 0 ∷ 11 ∷ 0 ∷ 0 ∷ 0 ∷ 0 ∷ 0 ∷ 0 ∷ 0 ∷ 0 ∷ 0 ∷ 0 ∷ 0 ∷ []);
    }
    -- free zeroes header and segments, and nothing of its neighbour
    ∷ leaves (record_written 4112 16 ∷ record_written 4144 16 ∷ free 4112 ∷ []) (done ∷ done ∷ done ∷ []) (header 0 ++ segment 0 0 0 ++ header 16 ++ segment 1 255 255)
    ∷ leaves (record_written 4112 17 ∷ record_block 8195 11 ∷ free 4112 ∷ []) (done ∷ done ∷ done ∷ []) (header 0 ++ segment 0 0 0 ++ segment 0 0 0)
    ∷ leaves (record_literal 8192 2 ∷ free 8192 ∷ remove 4112 ∷ remove 8192 ∷ free 0 ∷ []) (done ∷ refusal 15 ∷ refusal 4 ∷ done ∷ done ∷ []) []
    -- every question, of a block of 40 and one of 2 in the stack
    ∷ leaves
    (record_written 4112 40 ∷ record_block 8192 2 ∷ ask 4151 ∷ ask 4152 ∷ ask 4111 ∷ valid_write 4127 25 4112 ∷ valid_read 4127 26 4112
    ∷ initialised 4112 40 ∷ next 4000 ∷ next 4113 ∷ audit ∷ [])
    (done ∷ done ∷ answer 0 4112 40 39 1 ∷ refusal 7 ∷ refusal 7 ∷ answer 0 1 0 0 0 ∷ answer 0 0 0 0 0
    ∷ answer 0 1 0 0 0 ∷ answer 0 4112 40 0 0 ∷ answer 0 8192 2 0 0 ∷ answer 0 1 1 42 40 ∷ [])
    []
    -- written into a literal; clear
    ∷ leaves (record_literal 8192 2 ∷ written 8192 1 ∷ record_written 4112 17 ∷ clear ∷ audit ∷ []) (done ∷ refusal 13 ∷ done ∷ done ∷ answer 0 0 0 0 0 ∷ [])
    (header 0 ++ segment 0 0 0 ++ segment 0 0 0 ++ segment 0 0 0)
    -- place: whole segments of 16, a header of 16
    ∷ one (place 16 1) (answer 0 4112 1 32 0)
    ∷ one (place 17 1) (answer 0 4112 1 16 0)
    ∷ one (place 48 1) (answer 0 4112 1 0 0)
    ∷ one (place 49 1) (refusal 14)
    ∷ []

-- ---- given shadows

-- a block of 40 at 4112, and parts put over it
abbrev over40 : List Part → Call → Answer → Given
over40 ps c r =
    record { heap = (8, 40 ∷ []) ∷ (16, 1 ∷ []) ∷ (32, 17 ∷ []) ∷ (48, 33 ∷ []) ∷ ps; primary = []; secondary = []; asks = c; gets = r }

-- these parts of the heap shadow alone
abbrev heap_alone : List Part → Call → Answer → Given
heap_alone ps c r = record { heap = ps; primary = []; secondary = []; asks = c; gets = r }

-- one byte of it is 1: that of position q
abbrev one_at : (q : ℕ) → Call → Answer → Given
one_at q = over40 ((q, 1 ∷ []) ∷ [])

unfoldable pub desk_given : List Given
desk_given =
    over40 [] (ask 4150) (answer 0 4112 40 38 0)
    -- each higher byte of a number counts; from byte 4 on it is 2 to the 32 or more, which is damage: in the segment's place
    ∷ one_at 33 (ask 4128) (refusal 8)
    ∷ one_at 34 (ask 4128) (refusal 8)
    ∷ one_at 35 (ask 4128) (refusal 8)
    ∷ one_at 36 (ask 4128) (refusal 8)
    ∷ one_at 37 (ask 4128) (refusal 8)
    ∷ one_at 38 (ask 4128) (refusal 8)
    ∷ one_at 39 (ask 4128) (refusal 8)
    ∷ over40 ((39, 255 ∷ []) ∷ []) (ask 4128) (refusal 8)
    -- but free reads its first byte alone
    ∷ one_at 36 (free 4112) done
    -- and in the header's place
    ∷ one_at 9 (ask 4128) (refusal 8)
    ∷ one_at 10 (ask 4128) (refusal 8)
    ∷ one_at 11 (ask 4128) (refusal 8)
    ∷ one_at 12 (ask 4128) (refusal 8)
    ∷ one_at 13 (ask 4128) (refusal 8)
    ∷ one_at 14 (ask 4128) (refusal 8)
    ∷ one_at 15 (ask 4128) (refusal 8)
    ∷ over40 ((15, 255 ∷ []) ∷ []) (ask 4128) (refusal 8)
    -- 2 to the 32 alone: four bytes would say no block
    ∷ over40 ((16, 0 ∷ 0 ∷ 0 ∷ 0 ∷ 1 ∷ []) ∷ []) (ask 4112) (refusal 8)
    -- an offset that is no multiple of 16: each would tell a block that holds the address
    ∷ heap_alone ((16, 40 ∷ []) ∷ (32, 9 ∷ []) ∷ []) (ask 4128) (refusal 8)
    ∷ heap_alone ((16, 25 ∷ []) ∷ (48, 25 ∷ []) ∷ []) (ask 4144) (refusal 8)
    ∷ heap_alone ((9, 40 ∷ []) ∷ (32, 16 ∷ []) ∷ []) (ask 4128) (refusal 8)
    -- a base below 16
    ∷ over40 ((16, 17 ∷ []) ∷ []) (ask 4112) (refusal 8)
    -- the length: 0; past the area; at its end; one that ends before the segment, or in it
    ∷ over40 ((8, 0 ∷ []) ∷ []) (ask 4112) (refusal 8)
    ∷ over40 ((8, 49 ∷ []) ∷ []) (ask 4112) (refusal 8)
    ∷ over40 ((8, 48 ∷ []) ∷ []) (ask 4159) (answer 0 4112 48 47 0)
    ∷ over40 ((8, 16 ∷ []) ∷ []) (ask 4128) (refusal 8)
    ∷ over40 ((8, 17 ∷ []) ∷ []) (ask 4128) (answer 0 4112 17 16 0)
    ∷ over40 ((8, 17 ∷ []) ∷ []) (ask 4129) (refusal 7)
    -- the header's first eight bytes are a segment's number, zero for no block
    ∷ over40 [] (ask 4096) (refusal 7)
    ∷ one_at 4 (ask 4096) (refusal 8)
    ∷ one_at 4 audit (refusal 8)
    -- written bits: byte 8 for bytes 0 to 7, byte 9 for 8 to 15; bytes 10 to 15, which no reading looks at, are zero in an image
    ∷ over40 ((24, 128 ∷ 0 ∷ []) ∷ []) (ask 4119) (answer 0 4112 40 7 1)
    ∷ over40 ((24, 128 ∷ 0 ∷ []) ∷ []) (ask 4127) (answer 0 4112 40 15 0)
    ∷ over40 ((24, 0 ∷ 1 ∷ []) ∷ []) (ask 4120) (answer 0 4112 40 8 1)
    ∷ over40 ((24, 0 ∷ 1 ∷ []) ∷ []) (ask 4112) (answer 0 4112 40 0 0)
    ∷ over40 ((24, 128 ∷ 1 ∷ []) ∷ []) (initialised 4119 2) (answer 0 1 0 0 0)
    ∷ over40 ((24, 128 ∷ 2 ∷ []) ∷ []) (initialised 4119 2) (answer 0 0 0 0 0)
    ∷ over40 ((24, 128 ∷ 1 ∷ []) ∷ []) audit (answer 0 1 0 40 2)
    ∷ one_at 26 (ask 4112) (answer 0 4112 40 0 0)
    ∷ one_at 26 audit (refusal 8)
    ∷ one_at 31 (ask 4112) (answer 0 4112 40 0 0)
    ∷ one_at 31 audit (refusal 8)
    -- the last segment has eight bytes of the block: no bit of byte 9 there
    ∷ over40 ((56, 255 ∷ 0 ∷ []) ∷ []) audit (answer 0 1 0 40 8)
    ∷ over40 ((56, 0 ∷ 1 ∷ []) ∷ []) audit (refusal 8)
    -- a gap is of whole segments: a byte in either half ends it, and its other half is no gap
    ∷ heap_alone ((24, 1 ∷ []) ∷ []) (place 16 2) (answer 0 4144 2 0 0)
    ∷ heap_alone ((24, 1 ∷ []) ∷ []) (place 16 1) (refusal 14)
    ∷ heap_alone ((8, 1 ∷ []) ∷ []) (place 16 9) (answer 0 4128 1 16 0)
    ∷ heap_alone ((16, 1 ∷ []) ∷ []) (place 16 9) (answer 0 4144 2 0 0)
    ∷ heap_alone ((40, 1 ∷ []) ∷ []) (place 16 9) (answer 0 4112 2 0 0)
    ∷ heap_alone ((31, 1 ∷ []) ∷ []) (record_block 4112 4) (refusal 6)
    -- the stack has four-byte numbers as before: the second piece of a block of 20, and the second byte of a block of 2, by
    -- its code
    ∷ record { heap = []; primary = (8, 192 ∷ []) ∷ []; secondary = (8, 20 ∷ 0 ∷ 0 ∷ 0 ∷ 8 ∷ 0 ∷ 0 ∷ 0 ∷ []) ∷ []; asks = ask 8200; gets = answer 0 8192 20 8 0 }
    ∷ record { heap = []; primary = (0, 8 ∷ 12 ∷ []) ∷ []; secondary = []; asks = ask 8193; gets = answer 0 8192 2 1 0 }
    ∷ []

-- ---- numbers above 255, under a map whose heap has 320 bytes

abbrev pub larger_desk : Map
larger_desk = map_of 4096 320 8192 32

-- a block of 300, 17 of its bytes from offset 256 on written, and the heap shadow from a position on
abbrev long_desk : (position : ℕ) → List ℕ → Sample
long_desk q h =
    record { calls = record_block 4112 300 ∷ written 4368 17 ∷ []; answers = done ∷ done ∷ []; heap = (q, h); primary = (0, []); secondary = (0, []) }

unfoldable pub desk_larger : List Sample
desk_larger =
    long_desk 0 (zeros8 ++ (44 ∷ 1 ∷ 0 ∷ 0 ∷ 0 ∷ 0 ∷ 0 ∷ 0 ∷ []))
    -- the segments at offsets 240, 256, 272 and 288
    ∷ long_desk 256 (segment 241 0 0 ++ (1 ∷ 1 ∷ 0 ∷ 0 ∷ 0 ∷ 0 ∷ 0 ∷ 0 ∷ 255 ∷ 255 ∷ 0 ∷ 0 ∷ 0 ∷ 0 ∷ 0 ∷ 0 ∷ []))
    ∷ long_desk 288 ((17 ∷ 1 ∷ 0 ∷ 0 ∷ 0 ∷ 0 ∷ 0 ∷ 0 ∷ 1 ∷ 0 ∷ []) ++ (0 ∷ 0 ∷ 0 ∷ 0 ∷ 0 ∷ 0 ∷ []) ++ (33 ∷ 1 ∷ 0 ∷ 0 ∷ 0 ∷ 0 ∷ 0 ∷ 0 ∷ []) ++ zeros8)
    ∷ record {
      calls = record_block 4112 300 ∷ written 4368 17 ∷ ask 4368 ∷ ask 4411 ∷ ask 4412 ∷ [];
      answers = done ∷ done ∷ answer 0 4112 300 256 1 ∷ answer 0 4112 300 299 0 ∷ refusal 7 ∷ [];
      heap = (0, []);
      primary = (0, []);
      secondary = (0, []);
    }
    ∷ []

abbrev pub DeskSamplesHold : Type 0
DeskSamplesHold =
    (all_hold desk example_map example ≡ true) × (all_hold desk sample_map desk_runs ≡ true) × (all_given desk sample_map desk_given ≡ true)
    × (all_hold desk larger_desk desk_larger ≡ true)

-- ---- maps

-- each breaks one rule
unfoldable pub desk_bad_maps : List Map
desk_bad_maps =
    -- 16 divides the heap's start and size: multiples of 8 and others
    map_of 4104 64 8192 32
    ∷ map_of 4096 72 8192 32
    ∷ map_of 8 64 8192 32
    ∷ map_of 4097 64 8192 32
    ∷ map_of 4096 65 8192 32
    -- the heap's sizes, from 32 to 131,072
    ∷ map_of 4096 0 8192 32
    ∷ map_of 4096 16 8192 32
    ∷ map_of 4096 131088 262144 32
    -- the start at least 8, start + size at most 4,294,967,295
    ∷ map_of 0 64 8192 32
    ∷ map_of 4294967264 32 8192 32
    -- the stack's rules are as before
    ∷ map_of 4096 64 8196 32
    ∷ map_of 4096 64 8192 36
    ∷ map_of 4096 64 8192 8
    ∷ map_of 4096 64 8192 65544
    ∷ map_of 4096 64 0 32
    ∷ map_of 4096 64 4294967280 16
    -- no byte in common
    ∷ map_of 4096 64 4152 32
    ∷ map_of 4112 64 4096 24
    ∷ []

-- and these none, at the edges
unfoldable pub desk_good_maps : List Map
desk_good_maps =
    sample_map
    ∷ example_map
    ∷ map_of 16 32 8192 32
    ∷ map_of 4112 48 8192 32
    ∷ map_of 4096 131072 262144 65536
    ∷ map_of 4294967248 32 8192 32
    -- the stack's multiples stay 8, its least size 16
    ∷ map_of 4096 64 8200 24
    ∷ map_of 4096 64 8 16
    -- areas that touch
    ∷ map_of 4096 64 4160 32
    ∷ map_of 4112 64 4096 16
    ∷ []

-- 1 for every call on any shadows under a map that breaks a rule; under a good one 2 for every call on shadows without bytes
abbrev pub DeskMapSamplesHold : Type 0
DeskMapSamplesHold =
    Each (λ (m : Map). (c : Call) (s : Shadows) → call desk m c s ≡ (s, refusal 1)) desk_bad_maps
    × Each (λ (m : Map). (c : Call) → call desk m c (zeros_of 0 0 0) ≡ (zeros_of 0 0 0, refusal 2)) desk_good_maps
