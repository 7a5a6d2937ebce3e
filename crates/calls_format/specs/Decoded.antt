-- What the code's requests stand for, and the kind and length that a request's record has. Assumes nothing.
use Rattle.std.specs.Prelude as std
use Rattle.std.specs.Prelude.{◌≡◌, Bool, true, false, ◌||◌, ◌⊎◌, ℕ, eqb, Some, None}
use Rattle.std.proofs.Math.Option.{Option, none, some}
use Rattle.types.specs.declared.Beginning.{Beginning}
use Rattle.types.specs.declared.Beginning.TheVariants.{Unwritten, Written, Literal}
use Rattle.plain.specs.Call.{Call, clear, begin, free, remove, written, ask, valid, initialised, next, audit, place}
use Rattle.monitor_base.specs.Answers.{call_of}
use Rattle.calls_format.specs.declared.Request as code
use Rattle.calls_format.specs.declared.Request.TheVariants as case
use Rattle.calls_format.specs.Records.{Request, new_map, call, fields_of, record_length}

abbrev pub requested : code.Request → Request
requested (case.NewMap m) = new_map m
requested (case.Call c) = call (call_of c)

-- none where the record is undecodable
abbrev pub decoded_of : std.Option code.Request → Option Request
decoded_of (Some r) = some (requested r)
decoded_of None = none

-- the kind that records a block which begins so
abbrev pub begin_kind : Beginning → ℕ
begin_kind Unwritten = 2
begin_kind Written = 10
begin_kind Literal = 14

-- the kinds that record a block
abbrev pub Records : (kind : ℕ) → Type 0
Records k = (k ≡ 2) ⊎ (k ≡ 10) ⊎ (k ≡ 14)

-- the kind that asks whether bytes may be written, or read
abbrev pub valid_kind : (write : Bool) → ℕ
valid_kind true = 6
valid_kind false = 15

-- the kind of a call; clear and place have none of their own
abbrev pub call_kind : Call → ℕ
call_kind clear = 0
call_kind (begin how b l) = begin_kind how
call_kind (free x) = 3
call_kind (remove x) = 16
call_kind (written a n) = 4
call_kind (ask a) = 5
call_kind (valid write a n from) = valid_kind write
call_kind (initialised a n) = 7
call_kind (next a) = 8
call_kind audit = 9
call_kind (place l k) = 0

abbrev pub kind_of : Request → ℕ
kind_of (new_map m) = 1
kind_of (call c) = call_kind c

-- the length of a record of so many fields; 0 where the kind is unknown
abbrev pub length_for : (fields : Option ℕ) → ℕ
length_for none = 0
length_for (some n) = record_length n

-- the length of a record of a kind
abbrev pub length_of : (kind : ℕ) → ℕ
length_of k = length_for (fields_of k)

-- the length of the longest record, that of a new map
abbrev pub longest : ℕ
longest = 20

-- the kinds whose calls write; every other kind but the map's, 1, has calls that only read
abbrev pub writes : (kind : ℕ) → Bool
writes k = eqb k 2 || eqb k 3 || eqb k 4 || eqb k 10 || eqb k 14 || eqb k 16
