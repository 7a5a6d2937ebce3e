-- Document 01, the calls program: the records of a calls file and their kinds, with those of S-1, S-4, S-5 and S-7. A file is a list of bytes.
-- Assumes nothing.
use Rattle.std.specs.Prelude.{cond, ◌&&◌, List, [], ◌∷◌, ℕ, ◌+◌, ◌*◌, length, leb, eqb}
use Rattle.std.proofs.Math.Option.{Option, none, some}
use Rattle.types.specs.Call.{Call, record_block, record_written, record_literal, free, remove, written, ask, valid_write, valid_read, initialised, next, audit}
use Rattle.types.specs.Origins as origins
use Rattle.types.specs.Origins.{point, copy, live}
use Rattle.specification.specs.Numbers.{word, at}
use Rattle.specification.specs.Map.{Map}

-- ---- a record: the length of the whole record in two bytes, its kind in two bytes, then fields of four bytes. l is the file from there on

abbrev pub length_in : List ℕ → ℕ
length_in l = word (at l) 0 2

abbrev pub kind_in : List ℕ → ℕ
kind_in l = word (at l) 2 2

-- field 0, 1, 2, 3
abbrev pub field_in : List ℕ → (i : ℕ) → ℕ
field_in l i = word (at l) (4 + 4 * i) 4

-- ---- the kinds

-- what a record asks for: that a map be taken, or a call of the library
pub data Asks (C : Type 0) : Type 0 where
  new_map : Map → Asks C
  call : C → Asks C

-- a kind: its number, the length of its records, how many answer fields its line has, and what a record with these fields asks for
pub record Kind (C : Type 0) : Type 0 where
  pub number : ℕ
  pub length : ℕ
  pub answers : ℕ
  pub asks : (field : ℕ → ℕ) → Asks C

abbrev pub kind : {C : Type 0} → (number length answers : ℕ) → ((field : ℕ → ℕ) → Asks C) → Kind C
kind n l k f = record { number = n; length = l; answers = k; asks = f }

-- the plain kinds, each with its fields in the order of the call's arguments; a map's are heap start, heap size, stack start and stack size. A form
-- that has the plain calls among its own, by `plain`, has these kinds too
abbrev pub plain_kinds : {C : Type 0} → (plain : Call → C) → List (Kind C)
plain_kinds plain =
    kind 1 20 0 (λ f. new_map (record { heap_start = f 0; heap_size = f 1; stack_start = f 2; stack_size = f 3 }))
    ∷ kind 2 12 0 (λ f. call (plain (record_block (f 0) (f 1))))
    ∷ kind 3 8 0 (λ f. call (plain (free (f 0))))
    ∷ kind 4 12 0 (λ f. call (plain (written (f 0) (f 1))))
    ∷ kind 5 8 4 (λ f. call (plain (ask (f 0))))
    ∷ kind 6 16 1 (λ f. call (plain (valid_write (f 0) (f 1) (f 2))))
    ∷ kind 7 12 1 (λ f. call (plain (initialised (f 0) (f 1))))
    ∷ kind 8 8 2 (λ f. call (plain (next (f 0))))
    ∷ kind 9 4 4 (λ f. call (plain audit))
    -- S-1
    ∷ kind 10 12 0 (λ f. call (plain (record_written (f 0) (f 1))))
    -- S-5
    ∷ kind 14 12 0 (λ f. call (plain (record_literal (f 0) (f 1))))
    ∷ kind 15 16 1 (λ f. call (plain (valid_read (f 0) (f 1) (f 2))))
    -- S-7
    ∷ kind 16 8 0 (λ f. call (plain (remove (f 0))))
    ∷ []

-- S-4: kinds 11 to 13, which only this form's program knows, and the plain ones
abbrev pub origins_kinds : List (Kind origins.Call)
origins_kinds =
    kind 11 12 0 (λ f. call (point (f 0) (f 1)))
    ∷ kind 12 12 0 (λ f. call (copy (f 0) (f 1)))
    ∷ kind 13 12 1 (λ f. call (live (f 0) (f 1)))
    ∷ plain_kinds origins.plain

-- ---- decoding

-- the kind with this number; none where it is unknown
unfoldable pub find : {C : Type 0} → (number : ℕ) → List (Kind C) → Option (Kind C)
find n [] = none
find n (k ∷ ks) = cond (eqb n k.number) (some k) (find n ks)

-- the record has its kind's length, and the file has so many bytes left
abbrev pub whole : {C : Type 0} → List ℕ → Option (Kind C) → Option (Kind C)
whole l none = none
whole l (some k) = cond (eqb (length_in l) k.length && leb k.length (length l)) (some k) none

-- the kind of the first record; none where it is undecodable. Bytes that a cut file lacks count as zeros here; no kind has records of fewer than four
-- bytes, so that such a record is too short all the same
abbrev pub first_kind : {C : Type 0} → List (Kind C) → List ℕ → Option (Kind C)
first_kind ks l = whole l (find (kind_in l) ks)
