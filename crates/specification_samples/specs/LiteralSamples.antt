-- S-5, a table of samples of literals: their bytes, and what each call makes of them. Under the sample map: heap 4096 to 4159, stack 8192 to 8223.
-- Proved in proofs/Samples.antt. Assumes nothing.
use Rattle.std.specs.Prelude.{◌≡◌, true, List, [], ◌∷◌}
use Rattle.types.specs.Call.{record_block, record_literal, remove, written, ask, valid_write, valid_read, initialised, next, audit, answer, refusal, done}
use Rattle.specification.specs.Heap.{player}
use Rattle.specification_samples.specs.Samples.{Sample, sample_map, all_hold, one, zeros8}

unfoldable pub literals : List Sample
literals =
    -- a short one has codes 4 to 6, each with both low bits; ask, initialised, next and audit take it for a written block; remove ends it
    record {
      calls = record_literal 8192 3 ∷ ask 8194 ∷ initialised 8192 3 ∷ next 8190 ∷ audit ∷ [];
      answers = done ∷ answer 0 8192 3 2 1 ∷ answer 0 1 0 0 0 ∷ answer 0 8192 3 0 0 ∷ answer 0 0 1 3 3 ∷ [];
      heap = (0, []);
      primary = (0, 19 ∷ 23 ∷ 27 ∷ 0 ∷ []);
      secondary = (0, zeros8);
    }
    ∷ record {
      calls = record_literal 8192 3 ∷ remove 8193 ∷ remove 8192 ∷ audit ∷ record_block 8192 3 ∷ valid_write 8192 3 8192 ∷ [];
      answers = done ∷ refusal 7 ∷ done ∷ answer 0 0 0 0 0 ∷ done ∷ answer 0 1 0 0 0 ∷ [];
      heap = (0, []);
      primary = (0, 16 ∷ 20 ∷ 24 ∷ 0 ∷ []);
      secondary = (0, zeros8);
    }
    -- a long one: the secondary is that of record
    ∷ record {
      calls = record_literal 8195 11 ∷ ask 8205 ∷ [];
      answers = done ∷ answer 0 8195 11 10 1 ∷ [];
      heap = (0, []);
      primary = (2, 0 ∷ 195 ∷ 199 ∷ 203 ∷ 207 ∷ 211 ∷ 215 ∷ 219 ∷ 223 ∷ 227 ∷ 231 ∷ 235 ∷ 0 ∷ []);
      secondary = (3, 11 ∷ 0 ∷ 0 ∷ 0 ∷ 0 ∷ 0 ∷ 0 ∷ 0 ∷ 0 ∷ 0 ∷ 0 ∷ []);
    }
    -- of a literal valid says no when it is to be written, by the block of the address, and yes when it is to be read; 3 comes before either
    ∷ record {
      calls =
          record_literal 8192 4 ∷ valid_write 8192 4 8192 ∷ valid_read 8192 4 8192 ∷ valid_write 8192 0 8192 ∷ valid_read 8192 0 8192 ∷ record_block 8196 4
          ∷ valid_read 8196 4 8192 ∷ valid_read 8196 4 8196 ∷ valid_write 8196 4 8196 ∷ [];
      answers =
          done ∷ answer 0 0 0 0 0 ∷ answer 0 1 0 0 0 ∷ refusal 3 ∷ refusal 3 ∷ done ∷ answer 0 0 0 0 0 ∷ answer 0 1 0 0 0 ∷ answer 0 1 0 0 0 ∷ [];
      heap = (0, []);
      primary = (0, 31 ∷ 35 ∷ 39 ∷ 43 ∷ 28 ∷ 32 ∷ 36 ∷ 40 ∷ 0 ∷ []);
      secondary = (0, zeros8);
    }
    -- written into one: 13, after 3 and 7, and no byte is altered
    ∷ record {
      calls = record_literal 8192 4 ∷ written 8192 4 ∷ written 8192 5 ∷ written 8195 1 ∷ written 8192 0 ∷ [];
      answers = done ∷ refusal 13 ∷ refusal 7 ∷ refusal 13 ∷ refusal 3 ∷ [];
      heap = (0, []);
      primary = (0, 31 ∷ 35 ∷ 39 ∷ 43 ∷ 0 ∷ []);
      secondary = (0, zeros8);
    }
    -- the numbers are those of record, with 4 outside the stack
    ∷ one (record_literal 4104 0) (refusal 3)
    ∷ one (record_literal 4104 1) (refusal 4)
    ∷ one (record_literal 4105 1) (refusal 4)
    ∷ one (record_literal 0 1) (refusal 4)
    ∷ one (record_literal 8192 33) (refusal 4)
    ∷ record {
      calls = record_literal 8192 9 ∷ record_literal 8200 1 ∷ record_block 8200 1 ∷ record_literal 8201 1 ∷ [];
      answers = done ∷ refusal 6 ∷ refusal 6 ∷ done ∷ [];
      heap = (0, []);
      primary = (8, 227 ∷ 7 ∷ 0 ∷ []);
      secondary = (0, 9 ∷ 0 ∷ 0 ∷ 0 ∷ 0 ∷ 0 ∷ 0 ∷ 0 ∷ 0 ∷ 0 ∷ []);
    }
    ∷ []

-- every sample holds
abbrev pub LiteralSamplesHold : Type 0
LiteralSamplesHold = all_hold player sample_map literals ≡ true
