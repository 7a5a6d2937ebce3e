-- The records of a calls file: a two-byte length of the whole record, a two-byte kind, then four-byte fields. Assumes nothing.
use Rattle.std.specs.Prelude.{cond, ◌&&◌, List, ℕ, ◌+◌, ◌*◌, length, leb, eqb}
use Rattle.std.proofs.Math.Option.{Option, none, some}
use Rattle.number.specs.Little.{word}
use Rattle.number.specs.Parts.{at}
use Rattle.map.specs.declared.Map.{Map}
use Rattle.plain.specs.Call as plain
use Rattle.plain.specs.Call.{Call}

-- what a record asks for: a new map, or a call of the program's form
pub data Asked (C : Type 0) : Type 0 where
  new_map : Map → Asked C
  call : C → Asked C

-- in the plain program
abbrev pub Request : Type 0
Request = Asked Call

-- the length and the kind that a record begins with, and its field i
abbrev pub length_field : List ℕ → ℕ
length_field l = word (at l) 0 2

abbrev pub kind_field : List ℕ → ℕ
kind_field l = word (at l) 2 2

abbrev pub field : List ℕ → (i : ℕ) → ℕ
field l i = word (at l) (4 + 4 * i) 4

-- how many fields a kind has; none where the kind is unknown
unfoldable pub fields_of : (kind : ℕ) → Option ℕ
fields_of k =
    cond (eqb k 1) (some 4)
    (cond (eqb k 2) (some 2)
    (cond (eqb k 3) (some 1)
    (cond (eqb k 4) (some 2)
    (cond (eqb k 5) (some 1)
    (cond (eqb k 6) (some 3)
    (cond (eqb k 7) (some 2)
    (cond (eqb k 8) (some 1)
    (cond (eqb k 9) (some 0)
    (cond (eqb k 10) (some 2)
    (cond (eqb k 14) (some 2)
    (cond (eqb k 15) (some 3)
    (cond (eqb k 16) (some 1) none))))))))))))

-- what a record of a known kind asks for; the kind that is left at the end is 9
unfoldable pub request_of : (kind : ℕ) → List ℕ → Request
request_of k l =
    cond (eqb k 1) (new_map (record { heap_start = field l 0; heap_size = field l 1; stack_start = field l 2; stack_size = field l 3 }))
    (cond (eqb k 2) (call (plain.record_block (field l 0) (field l 1)))
    (cond (eqb k 3) (call (plain.free (field l 0)))
    (cond (eqb k 4) (call (plain.written (field l 0) (field l 1)))
    (cond (eqb k 5) (call (plain.ask (field l 0)))
    (cond (eqb k 6) (call (plain.valid_write (field l 0) (field l 1) (field l 2)))
    (cond (eqb k 7) (call (plain.initialised (field l 0) (field l 1)))
    (cond (eqb k 8) (call (plain.next (field l 0)))
    (cond (eqb k 10) (call (plain.record_written (field l 0) (field l 1)))
    (cond (eqb k 14) (call (plain.record_literal (field l 0) (field l 1)))
    (cond (eqb k 15) (call (plain.valid_read (field l 0) (field l 1) (field l 2)))
    (cond (eqb k 16) (call (plain.remove (field l 0)))
    (call plain.audit))))))))))))

-- the length that a record of so many fields has
abbrev pub record_length : (fields : ℕ) → ℕ
record_length n = 4 + 4 * n

abbrev pub decode_as : List ℕ → Option ℕ → Option Request
decode_as l none = none
decode_as l (some n) = cond (eqb (length_field l) (record_length n) && leb (record_length n) (length l)) (some (request_of (kind_field l) l)) none

-- the first record of what is left of a file; none where it is undecodable: file too short, unknown kind, or length not its kind's
unfoldable pub decode : List ℕ → Option Request
decode l = cond (leb 4 (length l)) (decode_as l (fields_of (kind_field l))) none
