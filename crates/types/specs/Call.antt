-- The calls by their names, with the kinds that they have in a calls file, and what a call answers. Assumes nothing.
use Rattle.std.specs.Prelude.{Bool, true, false, cond, List, [], ◌∷◌, ℕ, zero, suc}
use Rattle.number.specs.Bits.{bit}
use Rattle.types.specs.declared.Beginning.{Beginning}
use Rattle.types.specs.declared.Beginning.TheVariants.{Unwritten, Written, Literal}

-- ---- the calls. Arguments are any numbers

pub data Call : Type 0 where
  -- no kind of its own: an accepted map clears
  clear : Call
  -- kinds 2, 10 and 14: a block begins with no byte written, with every byte written (S-1), or as a literal (S-5)
  begin : (how : Beginning) (base length : ℕ) → Call
  -- kind 3: a heap block ends; address 0 is C's null pointer (S-2)
  free : (base : ℕ) → Call
  -- kind 16, S-7: a stack block ends
  remove : (base : ℕ) → Call
  -- kind 4
  written : (address n : ℕ) → Call
  -- kind 5
  ask : (address : ℕ) → Call
  -- kind 6, with `write`: may the bytes be written and read; kind 15, without (S-5): may they be read
  valid : (write : Bool) (address n from : ℕ) → Call
  -- kind 7
  initialised : (address n : ℕ) → Call
  -- kind 8
  next : (address : ℕ) → Call
  -- kind 9
  audit : Call
  -- no kind, S-6: a base for a heap block of this length, in one of the first `budget` gaps
  place : (length budget : ℕ) → Call

-- the three ways to record a block: kinds 2, 10 and 14
abbrev pub record_block : (base length : ℕ) → Call
record_block b l = begin Unwritten b l

abbrev pub record_written : (base length : ℕ) → Call
record_written b l = begin Written b l

abbrev pub record_literal : (base length : ℕ) → Call
record_literal b l = begin Literal b l

-- the two questions of a range: kinds 6 and 15
abbrev pub valid_write : (address n from : ℕ) → Call
valid_write a n from = valid true a n from

abbrev pub valid_read : (address n from : ℕ) → Call
valid_read a n from = valid false a n from

-- ---- the answers

-- the number, 0 for accepted, and the four answer fields in the order of the paper, zero where unused
pub data Answer : Type 0 where
  answer : (number a b c d : ℕ) → Answer

abbrev pub number : Answer → ℕ
number (answer k a b c d) = k

-- refused: the number, and no field
abbrev pub refusal : ℕ → Answer
refusal k = answer k 0 0 0 0

-- accepted, with no answer field
abbrev pub done : Answer
done = answer 0 0 0 0 0

-- accepted, with one answer field: 1 or 0
abbrev pub yes_no : Bool → Answer
yes_no t = answer 0 (bit t) 0 0 0

-- a number of refusal and the condition under which it is given
abbrev pub Refusal : Type 0
Refusal = ℕ × Bool

-- the first number whose condition holds, or 0
abbrev pub first_of : List Refusal → ℕ
first_of [] = 0
first_of (r ∷ rs) = cond r.1 r.0 (first_of rs)

-- where the number is 0, what the call does; else it is refused by that number, and nothing changes
abbrev pub unless : {S : Type 0} → ℕ → S → S × Answer → S × Answer
unless zero s r = r
unless (suc k) s r = (s, refusal (suc k))
