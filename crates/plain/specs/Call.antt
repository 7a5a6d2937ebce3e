-- The calls, their answers, and the order of refusals. Assumes nothing.
use Rattle.std.specs.Prelude.{Bool, true, false, cond, not, ◌&&◌, List, [], ◌∷◌, ℕ, zero, suc, eqb}
use Rattle.number.specs.Bits.{bit}
use Rattle.types.specs.declared.Beginning.{Beginning}
use Rattle.plain.specs.Block.{starts_literal}
use Rattle.plain.specs.Rules.{Rules}
pub use Rattle.types.specs.Call.{Call, clear, begin, free, remove, written, ask, valid, initialised, next, audit, place, record_block, record_written, record_literal, valid_write, valid_read, Answer, answer, number, refusal, done, yes_no, Refusal, first_of, unless}

-- the block fits the area of its base, which is the stack for a literal
abbrev pub allows : Rules → (how : Beginning) (base length : ℕ) → Bool
allows R h b l = R.fits b l && not (starts_literal h && R.heap b)

-- an address of the stack
abbrev pub is_stack : Rules → ℕ → Bool
is_stack R a = R.inside a && not (R.heap a)

-- 3, 4, 5 and 15, which follow from arguments and map
abbrev pub by_rules : Rules → Call → List Refusal
by_rules R clear = []
by_rules R (begin h b l) = (3, eqb l 0) ∷ (4, not (allows R h b l)) ∷ (5, not (R.aligned b)) ∷ []
by_rules R (free zero) = []
by_rules R (free (suc x)) = (4, not (R.inside (suc x))) ∷ (15, is_stack R (suc x)) ∷ []
by_rules R (remove x) = (4, not (is_stack R x)) ∷ []
by_rules R (written a n) = (3, eqb n 0) ∷ (4, not (R.inside a)) ∷ []
by_rules R (ask a) = (4, not (R.inside a)) ∷ []
by_rules R (valid w a n from) = (3, eqb n 0) ∷ []
by_rules R (initialised a n) = (3, eqb n 0) ∷ []
by_rules R (next a) = []
by_rules R audit = []
by_rules R (place l k) = (3, eqb l 0) ∷ []
