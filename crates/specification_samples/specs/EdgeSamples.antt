-- More samples of document 01 for the player: the edges of what map and arguments decide; S-1, blocks that begin written; and, under a larger map,
-- numbers above 255. Proved in proofs/Samples.antt. Assumes nothing.
use Rattle.std.specs.Prelude.{◌≡◌, true, List, [], ◌∷◌, ◌++◌, ℕ}
use Rattle.types.specs.Call.{clear, record_block, record_written, free, remove, written, ask, valid_write, initialised, next, audit, answer, refusal, done}
use Rattle.specification.specs.Map.{Map}
use Rattle.specification.specs.Heap.{player}
use Rattle.specification_samples.specs.Samples.{Sample, map_of, sample_map, all_hold, one, zeros8}

-- ---- what follows from arguments and map, at the edges: numbers, fields, and the bytes that free of address 0 leaves

unfoldable pub edges : List Sample
edges =
    -- a length of 0 is 3, inside and outside the areas
    one (record_block 0 0) (refusal 3)
    ∷ one (written 0 0) (refusal 3)
    ∷ one (valid_write 0 0 0) (refusal 3)
    ∷ one (initialised 0 0) (refusal 3)
    -- a block that passes the end, by whole numbers
    ∷ one (record_block 0 1) (refusal 4)
    ∷ one (record_block 8192 4294967295) (refusal 4)
    ∷ one (record_block 8216 4294959104) (refusal 4)
    ∷ one (record_block 4104 4294963192) (refusal 4)
    -- a heap block fits by its bytes: 5 where they fit, 4 where they, or the header, do not
    ∷ one (record_block 4156 4) (refusal 5)
    ∷ one (record_block 4157 4) (refusal 4)
    ∷ one (record_block 4100 4) (refusal 4)
    ∷ one (record_block 4103 1) (refusal 4)
    -- free of address 0 is accepted, of any other outside address it is refused
    ∷ one (free 0) done
    ∷ one (free 1) (refusal 4)
    ∷ one (free 4095) (refusal 4)
    ∷ one (free 4294967295) (refusal 4)
    -- free of address 0 alters no byte; written and ask refuse that address
    ∷ record {
      calls =
          record_block 4104 2 ∷ written 4105 1 ∷ record_block 8192 9 ∷ written 8193 1 ∷ free 0 ∷ written 0 1 ∷ ask 0 ∷ free 0 ∷ audit ∷ [];
      answers = done ∷ done ∷ done ∷ done ∷ done ∷ refusal 4 ∷ refusal 4 ∷ done ∷ answer 0 1 1 11 2 ∷ [];
      heap = (0, (0 ∷ 0 ∷ 0 ∷ 0 ∷ 2 ∷ 0 ∷ 0 ∷ 0 ∷ []) ++ (1 ∷ 0 ∷ 0 ∷ 0 ∷ 2 ∷ 0 ∷ 0 ∷ 0 ∷ []) ++ zeros8);
      primary = (0, 192 ∷ 197 ∷ 200 ∷ 204 ∷ 208 ∷ 212 ∷ 216 ∷ 220 ∷ 224 ∷ 0 ∷ []);
      secondary = (0, 9 ∷ 0 ∷ 0 ∷ 0 ∷ 0 ∷ 0 ∷ 0 ∷ 0 ∷ 0 ∷ []);
    }
    -- position 0 of an area is not address 0: a block that begins there is removed, and without one there is none to remove or to free
    ∷ record {
      calls = record_block 8192 9 ∷ remove 8192 ∷ remove 8192 ∷ free 4096 ∷ [];
      answers = done ∷ done ∷ refusal 7 ∷ refusal 7 ∷ [];
      heap = (0, []);
      primary = (0, zeros8 ++ (0 ∷ []));
      secondary = (0, zeros8);
    }
    -- outside both areas: 4 for written and ask, no block for valid and initialised
    ∷ one (written 4160 1) (refusal 4)
    ∷ one (ask 8224) (refusal 4)
    ∷ one (valid_write 0 1 0) (answer 0 0 0 0 0)
    ∷ one (initialised 4294967295 4294967295) (answer 0 0 0 0 0)
    -- inside an area, nothing recorded
    ∷ one (free 4104) (refusal 7)
    ∷ one (written 8192 1) (refusal 7)
    ∷ one (ask 4096) (refusal 7)
    ∷ one (next 4294967295) (refusal 7)
    ∷ one audit (answer 0 0 0 0 0)
    ∷ []

-- ---- S-1: blocks whose bytes all count as written from the start

unfoldable pub begun_written : List Sample
begun_written =
    -- the last heap segment's bits stop at the block's end; a short stack block has codes 4 to 6, each with the written bit
    record {
      calls = clear ∷ record_written 4104 9 ∷ audit ∷ initialised 4104 9 ∷ record_written 8192 3 ∷ audit ∷ [];
      answers = done ∷ done ∷ answer 0 1 0 9 9 ∷ answer 0 1 0 0 0 ∷ done ∷ answer 0 1 1 12 12 ∷ [];
      heap = (
        0,
        (0 ∷ 0 ∷ 0 ∷ 0 ∷ 9 ∷ 0 ∷ 0 ∷ 0 ∷ []) ++ (1 ∷ 0 ∷ 0 ∷ 0 ∷ 255 ∷ 0 ∷ 0 ∷ 0 ∷ []) ++ (9 ∷ 0 ∷ 0 ∷ 0 ∷ 1 ∷ 0 ∷ 0 ∷ 0 ∷ [])
            ++ zeros8,
      );
      primary = (0, 17 ∷ 21 ∷ 25 ∷ 0 ∷ []);
      secondary = (0, zeros8);
    }
    -- a long stack block: the secondary is that of record
    ∷ record {
      calls = record_written 8195 11 ∷ ask 8205 ∷ [];
      answers = done ∷ answer 0 8195 11 10 1 ∷ [];
      heap = (0, []);
      primary = (2, 0 ∷ 193 ∷ 197 ∷ 201 ∷ 205 ∷ 209 ∷ 213 ∷ 217 ∷ 221 ∷ 225 ∷ 229 ∷ 233 ∷ 0 ∷ []);
      secondary = (3, 11 ∷ 0 ∷ 0 ∷ 0 ∷ 0 ∷ 0 ∷ 0 ∷ 0 ∷ 0 ∷ 0 ∷ 0 ∷ []);
    }
    -- the numbers are those of record
    ∷ one (record_written 0 0) (refusal 3)
    ∷ one (record_written 4096 4) (refusal 4)
    ∷ one (record_written 4108 4) (refusal 5)
    ∷ one (record_written 4152 9) (refusal 4)
    ∷ one (record_written 8216 9) (refusal 4)
    ∷ record {
      calls = record_written 4104 8 ∷ record_written 4112 8 ∷ record_block 4104 8 ∷ record_written 8192 1 ∷ record_written 8192 1 ∷ [];
      answers = done ∷ refusal 6 ∷ refusal 6 ∷ done ∷ refusal 6 ∷ [];
      heap = (0, (0 ∷ 0 ∷ 0 ∷ 0 ∷ 8 ∷ 0 ∷ 0 ∷ 0 ∷ []) ++ (1 ∷ 0 ∷ 0 ∷ 0 ∷ 255 ∷ 0 ∷ 0 ∷ 0 ∷ []) ++ zeros8);
      primary = (0, 5 ∷ 0 ∷ []);
      secondary = (0, []);
    }
    -- a block that takes a freed one's place begins anew, with no byte written
    ∷ record {
      calls = record_written 4104 8 ∷ free 4104 ∷ record_block 4104 8 ∷ initialised 4104 1 ∷ [];
      answers = done ∷ done ∷ done ∷ answer 0 0 0 0 0 ∷ [];
      heap = (8, 1 ∷ 0 ∷ 0 ∷ 0 ∷ 0 ∷ 0 ∷ 0 ∷ 0 ∷ []);
      primary = (0, []);
      secondary = (0, []);
    }
    ∷ []

-- ---- numbers above 255, under a map whose areas have 320 bytes each

abbrev pub larger_map : Map
larger_map = map_of 4096 320 8192 320

-- a heap block of 300, 9 of its bytes from offset 256 on written, and the heap shadow from a position on
abbrev long_heap : (position : ℕ) → List ℕ → Sample
long_heap q h =
    record { calls = record_block 4104 300 ∷ written 4360 9 ∷ []; answers = done ∷ done ∷ []; heap = (q, h); primary = (0, []); secondary = (0, []) }

-- a stack block of 300, and the secondary from a position on
abbrev long_stack : (position : ℕ) → List ℕ → Sample
long_stack q x =
    record { calls = record_block 8192 300 ∷ []; answers = done ∷ []; heap = (0, []); primary = (0, []); secondary = (q, x) }

unfoldable pub larger : List Sample
larger =
    -- the header's length; the segments at offsets 248, 256 and 264; the last one, at 296
    long_heap 0 (0 ∷ 0 ∷ 0 ∷ 0 ∷ 44 ∷ 1 ∷ 0 ∷ 0 ∷ [])
    ∷ long_heap 256 ((249 ∷ 0 ∷ 0 ∷ 0 ∷ 0 ∷ 0 ∷ 0 ∷ 0 ∷ []) ++ (1 ∷ 1 ∷ 0 ∷ 0 ∷ 255 ∷ 0 ∷ 0 ∷ 0 ∷ []) ++ (9 ∷ 1 ∷ 0 ∷ 0 ∷ 1 ∷ 0 ∷ 0 ∷ 0 ∷ []))
    ∷ long_heap 304 ((41 ∷ 1 ∷ 0 ∷ 0 ∷ 0 ∷ 0 ∷ 0 ∷ 0 ∷ []) ++ zeros8)
    -- the pieces at offsets 0, 248 and 256; the last one, at 288, of 12 bytes
    ∷ long_stack 0 (44 ∷ 1 ∷ 0 ∷ 0 ∷ 0 ∷ 0 ∷ 0 ∷ 0 ∷ [])
    ∷ long_stack 248 ((44 ∷ 1 ∷ 0 ∷ 0 ∷ 248 ∷ 0 ∷ 0 ∷ 0 ∷ []) ++ (44 ∷ 1 ∷ 0 ∷ 0 ∷ 0 ∷ 1 ∷ 0 ∷ 0 ∷ []))
    ∷ long_stack 288 ((44 ∷ 1 ∷ 0 ∷ 0 ∷ 32 ∷ 1 ∷ 0 ∷ 0 ∷ []) ++ zeros8)
    -- both read again, to their last bytes and past them
    ∷ record {
      calls = record_block 4104 300 ∷ written 4360 9 ∷ ask 4360 ∷ ask 4403 ∷ ask 4404 ∷ valid_write 4359 45 4104 ∷ valid_write 4359 46 4104 ∷ next 4096 ∷ free 4104 ∷ [];
      answers =
          done ∷ done ∷ answer 0 4104 300 256 1 ∷ answer 0 4104 300 299 0 ∷ refusal 7 ∷ answer 0 1 0 0 0 ∷ answer 0 0 0 0 0 ∷ answer 0 4104 300 0 0 ∷ done
          ∷ [];
      heap = (296, zeros8 ++ zeros8);
      primary = (0, []);
      secondary = (0, []);
    }
    ∷ record {
      calls = record_block 8192 300 ∷ ask 8448 ∷ ask 8491 ∷ ask 8492 ∷ valid_write 8447 45 8192 ∷ valid_write 8447 46 8192 ∷ next 8190 ∷ [];
      answers =
          done ∷ answer 0 8192 300 256 0 ∷ answer 0 8192 300 299 0 ∷ refusal 7 ∷ answer 0 1 0 0 0 ∷ answer 0 0 0 0 0 ∷ answer 0 8192 300 0 0 ∷ [];
      heap = (0, []);
      primary = (288, 192 ∷ 196 ∷ 200 ∷ 204 ∷ 208 ∷ 212 ∷ 216 ∷ 220 ∷ 224 ∷ 228 ∷ 232 ∷ 236 ∷ 0 ∷ []);
      secondary = (0, []);
    }
    ∷ []

-- every sample holds
abbrev pub EdgeSamplesHold : Type 0
EdgeSamplesHold =
    (all_hold player sample_map edges ≡ true) × (all_hold player sample_map begun_written ≡ true) × (all_hold player larger_map larger ≡ true)
