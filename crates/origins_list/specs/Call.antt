-- Request S-4: the calls of the form with origins, and the refusals that only this form has. Assumes nothing.
use Rattle.std.specs.Prelude.{Bool, true, false, not, ◌&&◌, List, [], ◌∷◌, ℕ, zero, suc, ◌%◌, leb, eqb}
use Rattle.plain.specs.Call as base
use Rattle.plain.specs.Call.{clear, begin, free, remove, written, ask, valid, initialised, next, audit, place, Refusal}
pub use Rattle.types.specs.Origins.{Call, plain, point, copy, live}

-- an address is that of a cell
abbrev pub is_cell : ℕ → Bool
is_cell c = eqb (c % 4) 0

-- "Origins run from 1 to 4,294,967,295"
abbrev pub is_origin : ℕ → Bool
is_origin k = leb 1 k && leb k 4294967295

-- what a plain call is to cells and origins: clear zeroes all, a recording takes an origin, a literal's too, free of an address other than 0
-- and remove zero the cells of their block, and every other call leaves them
pub data Role : Type 0 where
  clears : Role
  begins : (base length : ℕ) → Role
  ends : (base : ℕ) → Role
  leaves : Role

abbrev pub role_of : base.Call → Role
role_of clear = clears
role_of (begin h b l) = begins b l
role_of (free zero) = leaves
role_of (free (suc x)) = ends (suc x)
role_of (remove x) = ends x
role_of (written a n) = leaves
role_of (ask a) = leaves
role_of (valid w a n from) = leaves
role_of (initialised a n) = leaves
role_of (next a) = leaves
role_of audit = leaves
role_of (place l k) = leaves

-- "every recorded base is a multiple of 4, else 5"
abbrev pub unaligned : Role → List Refusal
unaligned (begins b l) = (5, not (is_cell b)) ∷ []
unaligned clears = []
unaligned (ends x) = []
unaligned leaves = []

-- "12, after 6, for each recording call, a counter outside 1 to 4,294,967,295"
abbrev pub used_up : Role → (counter : ℕ) → List Refusal
used_up (begins b l) k = (12, not (is_origin k)) ∷ []
used_up clears k = []
used_up (ends x) k = []
used_up leaves k = []

-- "recording stores it ..., then adds 1"; no other call takes an origin
abbrev pub is_begun : Role → Bool
is_begun (begins b l) = true
is_begun clears = false
is_begun (ends x) = false
is_begun leaves = false

abbrev pub takes_origin : Call → Bool
takes_origin (plain c) = is_begun (role_of c)
takes_origin (point c a) = false
takes_origin (copy t f) = false
takes_origin (live c a) = false
