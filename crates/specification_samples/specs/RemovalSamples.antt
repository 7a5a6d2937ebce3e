-- S-7, a table of samples of free and remove in both areas. Under the sample map: heap 4096 to 4159, stack 8192 to 8223. Proved in
-- proofs/Samples.antt. Assumes nothing.
use Rattle.std.specs.Prelude.{◌≡◌, true, List, [], ◌∷◌, ◌++◌}
use Rattle.types.specs.Call.{record_block, record_written, record_literal, free, remove, ask, initialised, audit, answer, refusal, done}
use Rattle.specification.specs.Heap.{player}
use Rattle.specification_samples.specs.Samples.{Sample, sample_map, all_hold, one, zeros8}

unfoldable pub removals : List Sample
removals =
    -- with nothing recorded: 15 comes before 7, and 4 of remove is for every address outside the stack, 0 included
    record {
      calls = free 8192 ∷ free 0 ∷ free 4104 ∷ remove 0 ∷ remove 4104 ∷ remove 8192 ∷ record_block 8192 2 ∷ remove 8193 ∷ remove 8192 ∷ audit ∷ [];
      answers =
          refusal 15 ∷ done ∷ refusal 7 ∷ refusal 4 ∷ refusal 4 ∷ refusal 7 ∷ done ∷ refusal 7 ∷ done ∷ answer 0 0 0 0 0 ∷ [];
      heap = (0, []);
      primary = (0, zeros8);
      secondary = (0, zeros8);
    }
    -- the first and the last address of the areas, and those beside them
    ∷ one (free 4159) (refusal 7)
    ∷ one (free 4160) (refusal 4)
    ∷ one (free 8191) (refusal 4)
    ∷ one (free 8223) (refusal 15)
    ∷ one (free 8224) (refusal 4)
    ∷ one (remove 1) (refusal 4)
    ∷ one (remove 4095) (refusal 4)
    ∷ one (remove 4096) (refusal 4)
    ∷ one (remove 4159) (refusal 4)
    ∷ one (remove 4160) (refusal 4)
    ∷ one (remove 8191) (refusal 4)
    ∷ one (remove 8223) (refusal 7)
    ∷ one (remove 8224) (refusal 4)
    ∷ one (remove 4294967295) (refusal 4)
    -- free of a stack block, at its first byte or another, a literal or not, leaves it; remove of a heap block leaves that
    ∷ record {
      calls =
          record_block 8192 3 ∷ record_literal 8196 2 ∷ record_written 4104 2 ∷ free 8192 ∷ free 8193 ∷ free 8196 ∷ remove 4104 ∷ remove 4105 ∷ audit ∷ [];
      answers =
          done ∷ done ∷ done ∷ refusal 15 ∷ refusal 15 ∷ refusal 15 ∷ refusal 4 ∷ refusal 4 ∷ answer 0 1 2 7 4 ∷ [];
      heap = (0, (0 ∷ 0 ∷ 0 ∷ 0 ∷ 2 ∷ 0 ∷ 0 ∷ 0 ∷ []) ++ (1 ∷ 0 ∷ 0 ∷ 0 ∷ 3 ∷ 0 ∷ 0 ∷ 0 ∷ []) ++ zeros8);
      primary = (0, 16 ∷ 20 ∷ 24 ∷ 0 ∷ 11 ∷ 15 ∷ 0 ∷ []);
      secondary = (0, zeros8);
    }
    -- a long block between its neighbours: primary and secondary of it become zero, and no other byte
    ∷ record {
      calls =
          record_block 8192 3 ∷ record_written 8195 11 ∷ record_literal 8206 9 ∷ record_block 4104 8 ∷ remove 8203 ∷ remove 8195 ∷ ask 8195 ∷ audit ∷ [];
      answers = done ∷ done ∷ done ∷ done ∷ refusal 7 ∷ done ∷ refusal 7 ∷ answer 0 1 2 20 9 ∷ [];
      heap = (0, (0 ∷ 0 ∷ 0 ∷ 0 ∷ 8 ∷ 0 ∷ 0 ∷ 0 ∷ []) ++ (1 ∷ []));
      primary = (0, (16 ∷ 20 ∷ 24 ∷ 0 ∷ 0 ∷ 0 ∷ []) ++ zeros8 ++ (195 ∷ 199 ∷ []));
      secondary = (0, (0 ∷ 0 ∷ 0 ∷ 0 ∷ 0 ∷ 0 ∷ []) ++ zeros8 ++ (9 ∷ 0 ∷ []));
    }
    -- a block that takes a removed one's place begins anew, with no byte written
    ∷ record {
      calls = record_literal 8192 4 ∷ remove 8192 ∷ record_block 8192 8 ∷ initialised 8192 1 ∷ [];
      answers = done ∷ done ∷ done ∷ answer 0 0 0 0 0 ∷ [];
      heap = (0, []);
      primary = (0, 116 ∷ 120 ∷ 124 ∷ 128 ∷ 132 ∷ 136 ∷ 140 ∷ 144 ∷ []);
      secondary = (0, zeros8);
    }
    ∷ []

-- every sample holds
abbrev pub RemovalSamplesHold : Type 0
RemovalSamplesHold = all_hold player sample_map removals ≡ true
