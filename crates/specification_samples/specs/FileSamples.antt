-- Samples of the calls programs: which maps they take, what records ask for, what files print. Assumes nothing.
use Rattle.std.specs.Prelude.{◌≡◌, List, [], ◌∷◌, ◌++◌, ℕ}
use Rattle.std.proofs.Math.Option.{Option, none, some}
use Rattle.number.specs.Parts.{Each}
use Rattle.types.specs.Map.{Map}
use Rattle.types.specs.Call.{record_literal, valid_read, remove, done, refusal}
use Rattle.types.specs.Origins as origins
use Rattle.types.specs.Origins.{plain, point, copy, live}
use Rattle.specification.specs.Map.{zeroed}
use Rattle.specification_origins.specs.Votes.{first}
use Rattle.specification_programs.specs.Records.{Asks, new_map, call, Kind, field_in, plain_kinds, origins_kinds, first_kind}
use Rattle.specification_programs.specs.Programs.{State, no_map, served, output, plain_form, origins_form}
use Rattle.specification_programs.specs.Text.{text}
use Rattle.specification_programs.specs.Samples.{sized, entry, Both}
use Rattle.specification_samples.specs.Samples.{map_of}

-- ---- a new map: 0, 10 and 1 at the edges of the programs' sizes

unfoldable pub taken : List Map
taken =
    map_of 4096 64 8192 32
    ∷ map_of 8 16 24 16
    ∷ map_of 4096 32768 65536 16384
    ∷ map_of 4096 32768 65536 16
    ∷ map_of 4096 16 65536 16384
    ∷ map_of 4096 32760 65536 16376
    ∷ []

-- one size by one step, both, and the greatest sizes of a good map
unfoldable pub too_large : List Map
too_large =
    map_of 4096 32776 65536 16
    ∷ map_of 4096 32776 65536 16384
    ∷ map_of 4096 16 65536 16392
    ∷ map_of 4096 32768 65536 16392
    ∷ map_of 4096 32776 65536 16392
    ∷ map_of 4096 131072 262144 16
    ∷ map_of 4096 16 262144 65536
    ∷ map_of 4096 131072 262144 65536
    ∷ []

-- maps that break a rule: 1, also where a size is above the programs'
unfoldable pub bad : List Map
bad =
    no_map
    -- above the sizes of a good map
    ∷ map_of 8 131080 262144 16
    ∷ map_of 8 16 262144 65544
    -- areas that share a byte
    ∷ map_of 8 32776 16 16
    ∷ map_of 4096 32768 36856 16392
    -- a size or a start that is no multiple of 8, a start below 8
    ∷ map_of 4096 32769 65536 16
    ∷ map_of 4096 16 65536 16388
    ∷ map_of 4100 32776 65536 16
    ∷ map_of 0 32776 65536 16
    -- start + size is 2 to the 32; the other size is below 16
    ∷ map_of 4294934520 32776 8 16
    ∷ map_of 4096 32776 65536 8
    ∷ []

-- an accepted map clears and leaves the counter, a refused one keeps all: whatever these are
abbrev pub NewMapSamplesHold : Type 0
NewMapSamplesHold =
    Each (λ (m : Map). (s : State plain_form) → served plain_form (new_map m) s ≡ ((m, zeroed m), done)) taken
    × Each (λ (m : Map). (s : State plain_form) → served plain_form (new_map m) s ≡ (s, refusal 10)) too_large
    × Each (λ (m : Map). (s : State plain_form) → served plain_form (new_map m) s ≡ (s, refusal 1)) bad
    × Each (λ (m : Map). (s : State origins_form) → served origins_form (new_map m) s ≡ ((m, first m s.1.counter), done)) taken
    × Each (λ (m : Map). (s : State origins_form) → served origins_form (new_map m) s ≡ (s, refusal 10)) too_large
    × Each (λ (m : Map). (s : State origins_form) → served origins_form (new_map m) s ≡ (s, refusal 1)) bad

-- ---- records

abbrev pub asks : {C : Type 0} → List ℕ → Option (Kind C) → Option (Asks C)
asks l none = none
asks l (some k) = some (k.asks (field_in l))

-- a record's first four bytes, and then two fields: 8192 = 32 × 256, and 67305985, whose bytes are 1, 2, 3 and 4
abbrev headed : (length kind : ℕ) → List ℕ
headed n k = n ∷ 0 ∷ k ∷ 0 ∷ 0 ∷ 32 ∷ 0 ∷ 0 ∷ 1 ∷ 2 ∷ 3 ∷ 4 ∷ []

unfoldable pub decoded : List (List ℕ × Option (Asks origins.Call))
decoded =
    (headed 12 11, some (call (point 8192 67305985)))
    ∷ (headed 12 12, some (call (copy 8192 67305985)))
    ∷ (headed 12 13, some (call (live 8192 67305985)))
    -- plain kinds with the same fields, one of them with one more, one with the first alone
    ∷ (headed 12 14, some (call (plain (record_literal 8192 67305985))))
    ∷ (headed 16 15 ++ (0 ∷ 32 ∷ 0 ∷ 0 ∷ []), some (call (plain (valid_read 8192 67305985 8192))))
    ∷ (headed 8 16, some (call (plain (remove 8192))))
    -- another length than the kind's; kinds before and after
    ∷ (headed 11 11, none)
    ∷ (headed 13 12, none)
    ∷ (headed 8 13, none)
    ∷ (headed 16 13, none)
    ∷ (headed 16 14, none)
    ∷ (headed 12 15, none)
    ∷ (headed 12 16, none)
    ∷ (headed 12 17, none)
    ∷ (headed 12 0, none)
    -- cut
    ∷ (12 ∷ 0 ∷ 11 ∷ 0 ∷ 0 ∷ 32 ∷ 0 ∷ 0 ∷ 1 ∷ 2 ∷ 3 ∷ [], none)
    ∷ (12 ∷ 0 ∷ 13 ∷ [], none)
    -- a length and a kind of 256 more
    ∷ (12 ∷ 1 ∷ 11 ∷ 0 ∷ 0 ∷ 32 ∷ 0 ∷ 0 ∷ 1 ∷ 2 ∷ 3 ∷ 4 ∷ [], none)
    ∷ (12 ∷ 0 ∷ 11 ∷ 1 ∷ 0 ∷ 32 ∷ 0 ∷ 0 ∷ 1 ∷ 2 ∷ 3 ∷ 4 ∷ [], none)
    ∷ []

-- the plain program decodes none of the other's own kinds
unfoldable pub own : List (List ℕ)
own = headed 12 11 ∷ headed 12 12 ∷ headed 12 13 ∷ []

abbrev pub RecordSamplesHold : Type 0
RecordSamplesHold =
    Each (λ (r : List ℕ × Option (Asks origins.Call)). asks r.0 (first_kind origins_kinds r.0) ≡ r.1) decoded
    × Each (λ (l : List ℕ). asks l (first_kind (plain_kinds (λ c. c)) l) ≡ none) own

-- ---- files

-- heap 8 to 23, stack 24 to 39; a block of 4 bytes at 24, which is asked for; and a kind that the plain program does not know
unfoldable pub plain_file : List ℕ
plain_file =
    entry 1 (8 ∷ 16 ∷ 24 ∷ 16 ∷ []) ++ entry 2 (24 ∷ 4 ∷ []) ++ entry 4 (25 ∷ 1 ∷ []) ++ entry 5 (25 ∷ []) ++ entry 6 (24 ∷ 4 ∷ 24 ∷ [])
    ++ entry 7 (24 ∷ 2 ∷ []) ++ entry 8 (8 ∷ []) ++ entry 9 [] ++ entry 3 (0 ∷ []) ++ entry 16 (24 ∷ []) ++ entry 5 (24 ∷ []) ++ entry 10 (16 ∷ 8 ∷ [])
    ++ entry 3 (16 ∷ []) ++ entry 5 (16 ∷ []) ++ entry 11 (24 ∷ 24 ∷ [])

-- a block of 8 bytes at 24 with two cells, and one of 4 at 32, to which the pointer at 24 is set; a copy; then that block goes. The record of a
-- length that is not its kind's, all of which is there, ends the run
unfoldable pub origins_file : List ℕ
origins_file =
    entry 1 (8 ∷ 16 ∷ 24 ∷ 16 ∷ []) ++ entry 2 (24 ∷ 8 ∷ []) ++ entry 2 (32 ∷ 4 ∷ []) ++ entry 11 (24 ∷ 33 ∷ []) ++ entry 12 (28 ∷ 24 ∷ [])
    ++ entry 13 (28 ∷ 35 ∷ []) ++ entry 13 (28 ∷ 36 ∷ []) ++ entry 13 (26 ∷ 32 ∷ []) ++ entry 16 (32 ∷ []) ++ entry 10 (32 ∷ 4 ∷ [])
    ++ entry 13 (24 ∷ 32 ∷ []) ++ entry 5 (32 ∷ []) ++ sized 16 13 (24 ∷ 32 ∷ 0 ∷ [])

-- a literal of 4 bytes at 8192, which may be read and not written, and beside it a block that may be written
unfoldable pub literal_file : List ℕ
literal_file =
    entry 1 (4096 ∷ 64 ∷ 8192 ∷ 32 ∷ []) ++ entry 14 (8192 ∷ 4 ∷ []) ++ entry 6 (8192 ∷ 4 ∷ 8192 ∷ []) ++ entry 15 (8192 ∷ 4 ∷ 8192 ∷ [])
    ++ entry 6 (8192 ∷ 0 ∷ 8192 ∷ []) ++ entry 2 (8196 ∷ 4 ∷ []) ++ entry 15 (8196 ∷ 4 ∷ 8192 ∷ []) ++ entry 15 (8196 ∷ 4 ∷ 8196 ∷ [])
    ++ entry 6 (8196 ∷ 4 ∷ 8196 ∷ []) ++ entry 4 (8192 ∷ 4 ∷ []) ++ entry 4 (8192 ∷ 5 ∷ []) ++ entry 4 (8195 ∷ 1 ∷ []) ++ entry 4 (8192 ∷ 0 ∷ [])

-- a pointer kept in a literal
unfoldable pub cell_file : List ℕ
cell_file =
    entry 1 (4096 ∷ 64 ∷ 8192 ∷ 32 ∷ []) ++ entry 14 (8192 ∷ 4 ∷ []) ++ entry 11 (8192 ∷ 8192 ∷ []) ++ entry 13 (8192 ∷ 8195 ∷ []) ++ entry 9 []

-- free and remove in both areas
unfoldable pub removal_file : List ℕ
removal_file =
    entry 1 (4096 ∷ 64 ∷ 8192 ∷ 32 ∷ []) ++ entry 3 (8192 ∷ []) ++ entry 3 (0 ∷ []) ++ entry 3 (4104 ∷ []) ++ entry 16 (0 ∷ []) ++ entry 16 (4104 ∷ [])
    ++ entry 16 (8192 ∷ []) ++ entry 2 (8192 ∷ 2 ∷ []) ++ entry 16 (8193 ∷ []) ++ entry 16 (8192 ∷ [])

abbrev pub FilesHold : Type 0
FilesHold =
    (output plain_form plain_file ≡ text "1 0\n2 0\n4 0\n5 0 24 4 1 1\n6 0 1\n7 0 0\n8 0 24 4\n9 0 0 1 4 1\n3 0\n16 0\n5 7\n10 0\n3 0\n5 7\n9\n")
    × (output origins_form origins_file ≡ text "1 0\n2 0\n2 0\n11 0\n12 0\n13 0 1\n13 0 0\n13 11\n16 0\n10 0\n13 0 0\n5 0 32 4 0 1\n9\n")
    × Both literal_file (text "1 0\n14 0\n6 0 0\n15 0 1\n6 3\n2 0\n15 0 0\n15 0 1\n6 0 1\n4 13\n4 7\n4 13\n4 3\n")
    × (output origins_form cell_file ≡ text "1 0\n14 0\n11 0\n13 0 1\n9 0 0 1 4 4\n")
    × Both removal_file (text "1 0\n3 15\n3 0\n3 7\n16 4\n16 4\n16 7\n2 0\n16 7\n16 0\n")
