-- The numbers of a line, and the record that they make. Assumes nothing.
use Rattle.std.specs.Prelude.{cond, List, [], ◌∷◌, Option, Some, None, unwrap_or, Result, Ok, Err, ℕ, zero, suc, ◌+◌, ◌*◌, ◌-◌, length, leb, ltb}
use Rattle.number.specs.Little.{byte_of}
use Rattle.number.specs.Parts.{over}
use Rattle.samples_text.specs.Text.{skip_from, skip_spaces, gap_at, end_at, number_at, by_number}
use Rattle.samples_records.specs.Names.{name_in, call_names}
use Rattle.samples_records.specs.declared.names.Named.{Named}
use Rattle.samples_records.specs.declared.Record.{Record}
use Rattle.samples_records.specs.declared.Malformed.{Malformed}

-- numbers, and the place after the last
pub record Numbers : Type 0 where
  pub values : List ℕ
  pub end : ℕ

-- the numbers from place p on, each after spaces, n at most
unfoldable pub numbers_at : (n : ℕ) → (line : List ℕ) → (p : ℕ) → Numbers
numbers_at zero line p = record { values = []; end = p }
numbers_at (suc n) line p =
    by_number (number_at line (skip_spaces line p))
    (record { values = []; end = p })
    (λ v e. record { values = v ∷ (numbers_at n line e).values; end = (numbers_at n line e).end })

-- a record's length: four bytes of head, and four a field
abbrev pub record_length : (values : List ℕ) → ℕ
record_length vs = 4 + 4 * length vs

abbrev pub record_of : Numbers → Record
record_of ns = record { length = record_length ns.values; end = ns.end }

-- the four bytes of a number from byte q on; every other byte stays
abbrev pub put_number : (q v : ℕ) → (bytes : List ℕ) → List ℕ
put_number q v bytes = over q 4 (λ i. byte_of v (i - q)) bytes

-- one number after another
unfoldable pub put_numbers : (q : ℕ) → (values bytes : List ℕ) → List ℕ
put_numbers q [] bytes = bytes
put_numbers q (v ∷ vs) bytes = put_numbers (q + 4) vs (put_number q v bytes)

-- the head is length and kind, two bytes each; then the fields
abbrev pub put_record : (kind : ℕ) → (values bytes : List ℕ) → List ℕ
put_record kind vs bytes = put_number 0 (record_length vs + 65536 * kind) (put_numbers 4 vs bytes)

-- the record of a call by its name, where its numbers end the line
unfoldable pub call_of : (line : List ℕ) → Named → Option Record
call_of line n = cond (end_at line (numbers_at 15 line n.end).end) (Some (record_of (numbers_at 15 line n.end))) None

-- the name at place p, or kind 0 where none stands there
abbrev pub named : (line : List ℕ) → (p : ℕ) → Named
named line p = unwrap_or (name_in line p call_names) (record { kind = 0; end = p })

-- the call whose name stands at place p
abbrev pub call_at : (line : List ℕ) → (p : ℕ) → Option Record
call_at line p = call_of line (named line p)

-- its record is put over the bytes
abbrev pub bytes_of : (line : List ℕ) → Named → (bytes : List ℕ) → List ℕ
bytes_of line n bytes = put_record n.kind (numbers_at 15 line n.end).values bytes

abbrev pub call_bytes : (line : List ℕ) → (p : ℕ) → (bytes : List ℕ) → List ℕ
call_bytes line p bytes = bytes_of line (named line p) bytes

abbrev pub malformed : Result (Option Record) Malformed
malformed = Err (record {})

-- the record after the gap at place p: a kind of two bytes, then its fields, and a gap; none at the line's end
unfoldable pub item_at : (line : List ℕ) → (p : ℕ) → Result (Option Record) Malformed
item_at line p =
    cond (leb (length line) (skip_from 59 line p)) (Ok None)
    (by_number (number_at line (skip_from 59 line p)) malformed
    (λ k e. cond (ltb 65535 k) malformed (cond (gap_at line (numbers_at 15 line e).end) (Ok (Some (record_of (numbers_at 15 line e)))) malformed)))

-- where a kind stands there, its record is put over the bytes
unfoldable pub item_bytes : (line : List ℕ) → (p : ℕ) → (bytes : List ℕ) → List ℕ
item_bytes line p bytes =
    cond (leb (length line) (skip_from 59 line p)) bytes
    (by_number (number_at line (skip_from 59 line p)) bytes
    (λ k e. cond (ltb 65535 k) bytes (put_record k (numbers_at 15 line e).values bytes)))
