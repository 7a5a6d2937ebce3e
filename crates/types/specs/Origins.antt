-- S-4: the calls of the form with origins, what is lent to them, and their plain list. Assumes nothing.
use Rattle.std.specs.Prelude.{List, ℕ}
use Rattle.types.specs.Block.{Block}
use Rattle.types.specs.Call as base

-- arguments are any numbers
pub data Call : Type 0 where
  -- a call of the plain form. What place would be is said as of every other; the library of this form does not offer it
  plain : base.Call → Call
  -- kind 11: the pointer in a cell is set to the block that holds the address, or to none
  point : (cell address : ℕ) → Call
  -- kind 12: the pointer in a cell is set as that in another
  copy : (to from : ℕ) → Call
  -- kind 13: is the allocation that the pointer in a cell was last set to live, and does it hold the address?
  live : (cell address : ℕ) → Call

-- the block shadows, the cells, and the counter: the origin of the next block
pub record State (S C : Type 0) : Type 0 where
  pub shadows : S
  pub cells : C
  pub counter : ℕ

-- the plain list of this form
pub record OriginList : Type 0 where
  -- the live blocks, in address order
  pub blocks : List Block
  -- the origin of the live block with this base, 0 where there is none
  pub origin : ℕ → ℕ
  -- the referent of the pointer that is set in this cell, 0 where none is
  pub referent : ℕ → ℕ
  -- the origin of the next block
  pub counter : ℕ
