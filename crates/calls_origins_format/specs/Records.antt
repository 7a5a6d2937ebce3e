-- The records of this program: those of the plain program, and kinds 11 to 13. Assumes nothing.
use Rattle.std.specs.Prelude.{Bool, cond, ◌&&◌, List, ℕ, length, leb, eqb}
use Rattle.std.proofs.Math.Option.{Option, none, some}
use Rattle.origins_list.specs.Call.{Call, plain, point, copy, live}
use Rattle.calls_format.specs.Records as records
use Rattle.calls_format.specs.Records.{Asked, new_map, call, length_field, kind_field, field}
use Rattle.calls_format.specs.Decoded as decoded
use Rattle.calls_format.specs.Decoded.{call_kind}

-- what a record asks for: a new map, or a call of the form with origins
abbrev pub Request : Type 0
Request = Asked Call

-- the kinds that only this program has
abbrev pub is_own : (kind : ℕ) → Bool
is_own k = leb 11 k && leb k 13

-- each of them has two fields: a cell and an address, or two cells
abbrev pub own_length : ℕ
own_length = 12

unfoldable pub own_call : (kind first second : ℕ) → Call
own_call k a b = cond (eqb k 11) (point a b) (cond (eqb k 12) (copy a b) (live a b))

-- undecodable where its length is not its kind's, or the file too short
abbrev pub decode_own : List ℕ → Option Request
decode_own l = cond (eqb (length_field l) own_length && leb own_length (length l)) (some (call (own_call (kind_field l) (field l 0) (field l 1)))) none

-- what the plain program is asked for, asked of this one
abbrev pub asked : records.Request → Request
asked (new_map m) = new_map m
asked (call c) = call (plain c)

abbrev pub decode_plain : Option records.Request → Option Request
decode_plain none = none
decode_plain (some r) = some (asked r)

-- the first record of what is left of a file; none where it is undecodable
unfoldable pub decode : List ℕ → Option Request
decode l = cond (is_own (kind_field l)) (decode_own l) (decode_plain (records.decode l))

-- the kind of a request's record, and the length of a record of a kind
abbrev pub form_kind : Call → ℕ
form_kind (plain c) = call_kind c
form_kind (point c a) = 11
form_kind (copy t f) = 12
form_kind (live c a) = 13

abbrev pub kind_of : Request → ℕ
kind_of (new_map m) = 1
kind_of (call c) = form_kind c

abbrev pub length_of : (kind : ℕ) → ℕ
length_of k = cond (is_own k) own_length (decoded.length_of k)
