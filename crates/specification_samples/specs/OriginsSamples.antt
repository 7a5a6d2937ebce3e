-- Tables of samples for the form with origins: runs from given bytes, cells and counter under the sample map (heap 4096 to 4159, stack 8192 to
-- 8223), the answer of each call, and cells and counter afterwards. They decide the first counter, the order of the
-- bytes of a number, and the decisions on open points. Assumes nothing.
use Rattle.std.specs.Prelude.{◌≡◌, Bool, true, false, ◌&&◌, List, [], ◌∷◌, ℕ, replicate, eqb}
use Rattle.types.specs.Call.{record_block, record_written, record_literal, free, remove, written, ask, valid_write, valid_read, audit, clear, Answer, answer, refusal, done, yes_no}
use Rattle.types.specs.Origins.{Call, plain, point, copy, live}
use Rattle.specification_origins.specs.Origins.{Lent, call}
use Rattle.specification_origins.specs.Votes as votes
use Rattle.specification_samples.specs.Samples.{Part, sample_map, same_answer, has_bytes}
use Rattle.specification_samples.specs.GivenShadows.{put}

-- what a run begins with, its calls and their answers, and what it leaves: the bytes of each shadow of cells from a position on, and the counter
pub record Sample : Type 0 where
  pub first : Lent
  pub calls : List Call
  pub answers : List Answer
  pub heap_cells : Part
  pub stack_cells : Part
  pub counter : ℕ

abbrev pub leaves : Sample → Lent → Bool
leaves x y =
    has_bytes y.cells.0 x.heap_cells.0 x.heap_cells.1 && has_bytes y.cells.1 x.stack_cells.0 x.stack_cells.1
    && eqb y.counter x.counter

unfoldable pub run_holds : Sample → Lent → List Call → List Answer → Bool
run_holds x y [] [] = leaves x y
run_holds x y [] (r ∷ rs) = false
run_holds x y (c ∷ cs) [] = false
run_holds x y (c ∷ cs) (r ∷ rs) = let after = call sample_map c y in same_answer after.1 r && run_holds x after.0 cs rs

unfoldable pub all_hold : List Sample → Bool
all_hold [] = true
all_hold (x ∷ xs) = run_holds x x.first x.calls x.answers && all_hold xs

-- ---- where runs begin

abbrev begun : Lent
begun = votes.first sample_map 1

-- primary bytes, stack cells and counter; all else is zero
abbrev given : (primary stack_cells : List Part) → (counter : ℕ) → Lent
given p c k =
    record {
      shadows = (replicate 64 0, (put p (replicate 32 0), replicate 32 0));
      cells = (replicate 128 0, put c (replicate 64 0));
      counter = k;
    }

-- cells of these lengths, all zero
abbrev long : (heap_cells stack_cells : ℕ) → Lent
long h s = record { shadows = (replicate 64 0, (replicate 32 0, replicate 32 0)); cells = (replicate h 0, replicate s 0); counter = 1 }

-- every byte of the cells is 255
abbrev full : (heap primary : List Part) → Lent
full h p =
    record { shadows = (put h (replicate 64 0), (put p (replicate 32 0), replicate 32 0)); cells = (replicate 128 255, replicate 64 255); counter = 1 }

-- a stack block of eight bytes from 8192 on, and one from 8193 on
abbrev eight : Part
eight = (0, 116 ∷ 120 ∷ 124 ∷ 128 ∷ 132 ∷ 136 ∷ 140 ∷ 144 ∷ [])

abbrev off_cell : Part
off_cell = (1, 116 ∷ 120 ∷ 124 ∷ 128 ∷ 132 ∷ 136 ∷ 140 ∷ 144 ∷ [])

-- ---- runs, of which the answers and the counter are looked at

abbrev runs : Lent → List Call → List Answer → (counter : ℕ) → Sample
runs s cs rs k = record { first = s; calls = cs; answers = rs; heap_cells = (0, []); stack_cells = (0, []); counter = k }

-- one call
abbrev one : Lent → Call → Answer → (counter : ℕ) → Sample
one s c r k = runs s (c ∷ []) (r ∷ []) k

-- one call, and the bytes of the stack's cells or of the heap's afterwards
abbrev stack : Lent → Call → Answer → Part → (counter : ℕ) → Sample
stack s c r q k = record { first = s; calls = c ∷ []; answers = r ∷ []; heap_cells = (0, []); stack_cells = q; counter = k }

abbrev heap : Lent → Call → Answer → Part → (counter : ℕ) → Sample
heap s c r q k = record { first = s; calls = c ∷ []; answers = r ∷ []; heap_cells = q; stack_cells = (0, []); counter = k }

-- ---- the first counter, the bytes of a number, and where a cell lies

unfoldable pub stored : List Sample
stored =
    -- "A 64-bit counter, 1 at first", "recording stores it in the cell of the block's base as the origin, then adds 1"
    stack begun (plain (record_block 8192 8)) done (0, 1 ∷ 0 ∷ 0 ∷ 0 ∷ 0 ∷ 0 ∷ 0 ∷ 0 ∷ 0 ∷ []) 2
    ∷ stack begun (plain (record_written 8196 4)) done (0, 0 ∷ 0 ∷ 0 ∷ 0 ∷ 0 ∷ 0 ∷ 0 ∷ 0 ∷ 1 ∷ 0 ∷ 0 ∷ 0 ∷ 0 ∷ 0 ∷ 0 ∷ 0 ∷ []) 2
    -- 16,909,060 is 1, 2, 3, 4, the least byte first
    ∷ heap (given [] [] 16909060) (plain (record_block 4104 8)) done (15, 0 ∷ 4 ∷ 3 ∷ 2 ∷ 1 ∷ 0 ∷ 0 ∷ 0 ∷ 0 ∷ 0 ∷ []) 16909061
    ∷ one (given (eight ∷ []) ((0, 4 ∷ 3 ∷ 2 ∷ 1 ∷ 4 ∷ 3 ∷ 2 ∷ 1 ∷ []) ∷ []) 1) (live 8192 8192) (answer 0 1 0 0 0) 1
    ∷ one (given (eight ∷ []) ((0, 4 ∷ 3 ∷ 2 ∷ 1 ∷ 4 ∷ 3 ∷ 1 ∷ 2 ∷ []) ∷ []) 1) (live 8192 8192) done 1
    -- recording writes the origin half alone, and cells that are not zero are no 6
    ∷ heap (full [] []) (plain (record_block 4104 4)) done (15, 255 ∷ 1 ∷ 0 ∷ 0 ∷ 0 ∷ 255 ∷ 255 ∷ 255 ∷ 255 ∷ 255 ∷ []) 2
    -- freeing zeroes the cells of base to base + length − 1, both halves: of two and of four bytes one cell, of five two
    ∷ heap (full ((4, 2 ∷ []) ∷ (8, 1 ∷ []) ∷ []) []) (plain (free 4104)) done
    (15, 255 ∷ 0 ∷ 0 ∷ 0 ∷ 0 ∷ 0 ∷ 0 ∷ 0 ∷ 0 ∷ 255 ∷ []) 1
    ∷ heap (full ((4, 4 ∷ []) ∷ (8, 1 ∷ []) ∷ []) []) (plain (free 4104)) done
    (15, 255 ∷ 0 ∷ 0 ∷ 0 ∷ 0 ∷ 0 ∷ 0 ∷ 0 ∷ 0 ∷ 255 ∷ []) 1
    ∷ heap (full ((4, 5 ∷ []) ∷ (8, 1 ∷ []) ∷ []) []) (plain (free 4104)) done
    (15, 255 ∷ 0 ∷ 0 ∷ 0 ∷ 0 ∷ 0 ∷ 0 ∷ 0 ∷ 0 ∷ 0 ∷ 0 ∷ 0 ∷ 0 ∷ 0 ∷ 0 ∷ 0 ∷ 0 ∷ 255 ∷ []) 1
    -- and so does removing
    ∷ stack (full [] ((4, 8 ∷ 12 ∷ []) ∷ [])) (plain (remove 8196)) done (7, 255 ∷ 0 ∷ 0 ∷ 0 ∷ 0 ∷ 0 ∷ 0 ∷ 0 ∷ 0 ∷ 255 ∷ []) 1
    ∷ stack (full [] ((4, 28 ∷ 32 ∷ 36 ∷ 40 ∷ []) ∷ [])) (plain (remove 8196)) done (7, 255 ∷ 0 ∷ 0 ∷ 0 ∷ 0 ∷ 0 ∷ 0 ∷ 0 ∷ 0 ∷ 255 ∷ []) 1
    ∷ stack (full [] ((4, 44 ∷ 48 ∷ 52 ∷ 56 ∷ 60 ∷ []) ∷ [])) (plain (remove 8196)) done
    (7, 255 ∷ 0 ∷ 0 ∷ 0 ∷ 0 ∷ 0 ∷ 0 ∷ 0 ∷ 0 ∷ 0 ∷ 0 ∷ 0 ∷ 0 ∷ 0 ∷ 0 ∷ 0 ∷ 0 ∷ 255 ∷ []) 1
    -- a refused one leaves them, and free of a stack address is one
    ∷ stack (full [] ((4, 28 ∷ 32 ∷ 36 ∷ 40 ∷ []) ∷ [])) (plain (remove 8197)) (refusal 7) (7, 255 ∷ 255 ∷ 255 ∷ 255 ∷ 255 ∷ 255 ∷ 255 ∷ 255 ∷ 255 ∷ []) 1
    ∷ stack (full [] ((4, 28 ∷ 32 ∷ 36 ∷ 40 ∷ []) ∷ [])) (plain (free 8196)) (refusal 15) (7, 255 ∷ 255 ∷ 255 ∷ 255 ∷ 255 ∷ 255 ∷ 255 ∷ 255 ∷ 255 ∷ []) 1
    -- a block whose base is no multiple of 4: its origin is in the cell that contains the base
    ∷ stack (given (off_cell ∷ []) ((0, 7 ∷ []) ∷ []) 1) (point 8196 8193) done (8, 0 ∷ 0 ∷ 0 ∷ 0 ∷ 7 ∷ 0 ∷ 0 ∷ 0 ∷ []) 1
    -- kind 12 copies the referent half, from the second cell to the first
    ∷ stack (given (eight ∷ []) ((0, 1 ∷ 2 ∷ 3 ∷ 4 ∷ 5 ∷ 6 ∷ 7 ∷ 8 ∷ 9 ∷ 9 ∷ 9 ∷ 9 ∷ 9 ∷ 9 ∷ 9 ∷ 9 ∷ []) ∷ []) 1) (copy 8196 8192) done
    (0, 1 ∷ 2 ∷ 3 ∷ 4 ∷ 5 ∷ 6 ∷ 7 ∷ 8 ∷ 9 ∷ 9 ∷ 9 ∷ 9 ∷ 5 ∷ 6 ∷ 7 ∷ 8 ∷ []) 1
    -- clear zeroes all cells and leaves the counter
    ∷ heap (full [] []) (plain clear) done (120, 0 ∷ 0 ∷ 0 ∷ 0 ∷ 0 ∷ 0 ∷ 0 ∷ 0 ∷ []) 1
    ∷ []

-- ---- numbers

unfoldable pub refused : List Sample
refused =
    -- "a counter outside 1 to 4,294,967,295": the last one is still given
    one (given [] [] 0) (plain (record_block 8192 8)) (refusal 12) 0
    ∷ stack (given [] [] 4294967295) (plain (record_block 8192 8)) done (0, 255 ∷ 255 ∷ 255 ∷ 255 ∷ 0 ∷ []) 4294967296
    ∷ one (given [] [] 4294967296) (plain (record_block 8192 8)) (refusal 12) 4294967296
    ∷ one (given [] [] 4294967297) (plain (record_block 8192 8)) (refusal 12) 4294967297
    ∷ one (given [] [] 18446744073709551615) (plain (record_written 4104 8)) (refusal 12) 18446744073709551615
    -- after 3, 4, 5 and 6
    ∷ one (given [] [] 0) (plain (record_block 8192 0)) (refusal 3) 0
    ∷ one (given [] [] 0) (plain (record_block 8222 4)) (refusal 4) 0
    ∷ one (given [] [] 0) (plain (record_block 8194 2)) (refusal 5) 0
    ∷ one (given ((0, 4 ∷ []) ∷ []) [] 0) (plain (record_block 8192 4)) (refusal 6) 0
    -- "every recorded base is a multiple of 4, else 5", before 6
    ∷ one (given ((2, 4 ∷ []) ∷ []) [] 1) (plain (record_block 8194 2)) (refusal 5) 1
    ∷ one begun (plain (record_block 4108 4)) (refusal 5) 1
    -- of a literal a heap base is 4, aligned or not, and comes before 5
    ∷ one begun (plain (record_literal 4108 4)) (refusal 4) 1
    ∷ one begun (plain (record_literal 4104 4)) (refusal 4) 1
    ∷ one begun (plain (record_literal 8222 4)) (refusal 4) 1
    ∷ one begun (plain (record_literal 8198 2)) (refusal 5) 1
    ∷ one (given [] [] 0) (plain (record_literal 8192 8)) (refusal 12) 0
    -- "2 covers the cells' lengths too", of every call
    ∷ one (long 127 64) (plain (ask 8192)) (refusal 2) 1
    ∷ one (long 128 63) (plain (record_block 8192 0)) (refusal 2) 1
    ∷ one (long 129 64) (plain (free 0)) (refusal 2) 1
    ∷ one (long 128 63) (plain (remove 0)) (refusal 2) 1
    ∷ one (long 128 65) (live 0 0) (refusal 2) 1
    ∷ one (long 64 128) (plain audit) (refusal 2) 1
    ∷ one (long 128 64) (plain audit) done 1
    -- "4 is for pointer cells only"
    ∷ one begun (point 0 0) (refusal 4) 1
    ∷ one (given (eight ∷ []) [] 1) (point 8192 0) done 1
    ∷ one (given (eight ∷ []) [] 1) (copy 8192 0) (refusal 4) 1
    ∷ one (given (eight ∷ []) [] 1) (copy 0 8192) (refusal 4) 1
    ∷ one (given (eight ∷ []) [] 1) (live 8192 4294967295) done 1
    -- 11: no multiple of 4, or the four bytes not in one block; no block is 11 too
    ∷ one (given (eight ∷ []) [] 1) (point 8194 8192) (refusal 11) 1
    ∷ one (given (eight ∷ []) [] 1) (point 8200 8192) (refusal 11) 1
    ∷ one (given ((0, 64 ∷ 68 ∷ 72 ∷ 76 ∷ 80 ∷ 84 ∷ []) ∷ []) [] 1) (live 8192 8192) done 1
    ∷ one (given ((0, 64 ∷ 68 ∷ 72 ∷ 76 ∷ 80 ∷ 84 ∷ []) ∷ []) [] 1) (live 8196 8192) (refusal 11) 1
    ∷ one (given (eight ∷ []) [] 1) (copy 8192 8194) (refusal 11) 1
    -- 8 before it, of a cell's first byte, which is the address as given, or of the address
    ∷ one (given (eight ∷ (1, 1 ∷ []) ∷ []) [] 1) (point 8193 0) (refusal 8) 1
    ∷ one (given ((0, 1 ∷ 4 ∷ []) ∷ []) [] 1) (point 8193 0) (refusal 11) 1
    ∷ one (given (eight ∷ (8, 1 ∷ []) ∷ []) [] 1) (point 8194 8200) (refusal 8) 1
    ∷ one (given (eight ∷ (8, 1 ∷ []) ∷ []) [] 1) (point 0 8200) (refusal 4) 1
    ∷ one (given (eight ∷ (8, 1 ∷ []) ∷ []) [] 1) (copy 8192 8200) (refusal 8) 1
    ∷ one (given (eight ∷ (8, 1 ∷ []) ∷ []) [] 1) (copy 8200 8192) (refusal 8) 1
    ∷ one (given (eight ∷ (8, 1 ∷ []) ∷ []) [] 1) (live 8192 8200) (refusal 8) 1
    -- a referent of 0 is none, also where a live block's origin is 0
    ∷ one (given (eight ∷ []) [] 1) (live 8192 8192) done 1
    ∷ []

-- ---- runs from the first state

unfoldable pub followed : List Sample
followed =
    -- a pointer kept across free and a new block in the same place: valid says 1, kind 13 says 0; a copy of it is stale too
    runs begun
    (plain (record_block 8192 8) ∷ plain (record_block 4104 8) ∷ point 8192 4104 ∷ live 8192 4111 ∷ live 8192 4112 ∷ plain (free 4104) ∷ live 8192 4104
    ∷ copy 8196 8192 ∷ plain (record_block 4104 8) ∷ plain (valid_write 4104 8 4104) ∷ live 8192 4104 ∷ live 8196 4104 ∷ point 8192 4104 ∷ live 8192 4111
    ∷ live 8196 4111 ∷ [])
    (done ∷ done ∷ done ∷ yes_no true ∷ done ∷ done ∷ done ∷ done ∷ done ∷ yes_no true ∷ done ∷ done ∷ done ∷ yes_no true ∷ done ∷ [])
    4
    -- a copy points where its source does; the source's new referent is not the copy's, and a pointer set to no block gets 0
    ∷ runs begun
    (plain (record_block 8192 8) ∷ plain (record_block 4104 8) ∷ point 8192 4104 ∷ copy 8196 8192 ∷ live 8196 4104 ∷ live 8192 4104 ∷ point 8192 0
    ∷ live 8192 4104 ∷ live 8196 4104 ∷ copy 8196 8192 ∷ live 8196 4104 ∷ [])
    (done ∷ done ∷ done ∷ done ∷ yes_no true ∷ yes_no true ∷ done ∷ done ∷ yes_no true ∷ done ∷ done ∷ [])
    3
    -- removing the block that holds the cell unsets the pointer; a pointer may point into its own block
    ∷ runs begun
    (plain (record_block 8192 8) ∷ point 8196 8192 ∷ live 8196 8199 ∷ plain (remove 8192) ∷ live 8196 8192 ∷ plain (record_block 8192 8) ∷ live 8196 8192
    ∷ [])
    (done ∷ done ∷ yes_no true ∷ done ∷ refusal 11 ∷ done ∷ done ∷ [])
    3
    -- and so does freeing one of the heap
    ∷ runs begun
    (plain (record_block 4104 8) ∷ point 4108 4104 ∷ live 4108 4111 ∷ plain (free 4104) ∷ plain (record_block 4104 8) ∷ live 4108 4104 ∷ [])
    (done ∷ done ∷ yes_no true ∷ done ∷ done ∷ done ∷ [])
    3
    -- a pointer to a stack block that is removed, and another takes its place; of the heap nothing is removed, of the stack nothing freed
    ∷ runs begun
    (plain (record_block 4104 8) ∷ plain (record_block 8192 8) ∷ point 4104 8192 ∷ plain (free 8192) ∷ plain (remove 4104) ∷ live 4104 8199
    ∷ plain (remove 8192) ∷ live 4104 8192 ∷ plain (record_block 8192 8) ∷ plain (valid_write 8192 8 8192) ∷ live 4104 8192 ∷ [])
    (done ∷ done ∷ done ∷ refusal 15 ∷ refusal 4 ∷ yes_no true ∷ done ∷ done ∷ done ∷ yes_no true ∷ done ∷ [])
    4
    -- clear and refusals leave the counter; marks change nothing of it
    ∷ runs begun
    (plain (record_block 8192 4) ∷ plain (record_block 8192 4) ∷ plain (written 8192 4) ∷ plain clear ∷ plain (record_block 8192 4) ∷ [])
    (done ∷ refusal 6 ∷ done ∷ done ∷ done ∷ [])
    3
    -- a literal has an origin too; its cell may hold a pointer, which is no writing of it
    ∷ runs begun
    (plain (record_literal 8192 4) ∷ point 8192 8192 ∷ live 8192 8195 ∷ plain (written 8192 4) ∷ plain (valid_write 8192 4 8192)
    ∷ plain (valid_read 8192 4 8192) ∷ plain audit ∷ [])
    (done ∷ done ∷ yes_no true ∷ refusal 13 ∷ done ∷ yes_no true ∷ answer 0 0 1 4 4 ∷ [])
    2
    ∷ []

abbrev pub SamplesHold : Type 0
SamplesHold = (all_hold stored ≡ true) × (all_hold refused ≡ true) × (all_hold followed ≡ true)
