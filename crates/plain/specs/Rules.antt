-- What follows from the map alone: where blocks may stand, and what room they leave. The placing rules of a list of blocks. Assumes nothing.
use Rattle.std.specs.Prelude.{◌≡◌, Bool, true, false, ◌&&◌, List, [], ◌∷◌, ℕ, ◌+◌, ◌≤◌, ◌<◌, replicate, ltb}
use Rattle.plain.specs.Block.{Block, len}
use Rattle.plain.specs.Gaps.{Gap}

pub record Rules : Type 0 where
  -- the address lies in an area
  pub inside : ℕ → Bool
  -- base and length: the base lies in an area, and the block, with its header, fits that area
  pub fits : ℕ → ℕ → Bool
  -- the base is aligned as its area asks
  pub aligned : ℕ → Bool
  -- the footprint of a block of this base and length: from low to before high
  pub low : ℕ → ℕ → ℕ
  pub high : ℕ → ℕ → ℕ
  -- of an address inside: it is the heap's
  pub heap : ℕ → Bool
  -- every area ends at or below
  pub top : ℕ
  -- the bytes of a segment of the heap, and the heap's gaps beside these blocks: its segments that no footprint holds, in longest runs
  pub segment : ℕ
  pub gaps : List Block → List Gap

-- the footprint of a block of this base and length meets that of a listed one
unfoldable pub meets : Rules → (base length : ℕ) → Block → Bool
meets R b l c = ltb (R.low b l) (R.high c.base (len c)) && ltb (R.low c.base (len c)) (R.high b l)

-- a literal lies in the stack, and every byte of it is written
abbrev pub Proper : Rules → Block → Type 0
Proper R b = b.literal ≡ true → (R.heap b.base ≡ false) × (b.marks ≡ replicate (len b) true)

-- a placed list keeps the placing rules: each block has a byte, fits and is aligned, and is proper if it is a literal; the list is in address
-- order, no footprint meets another, and none begins below `from`
abbrev pub Placed : Rules → (from : ℕ) → List Block → Type 0
Placed R from [] = Unit {0}
Placed R from (b ∷ bs) =
    record {
      some : 1 ≤ len b;
      fits : R.fits b.base (len b) ≡ true;
      aligned : R.aligned b.base ≡ true;
      proper : Proper R b;
      room : from ≤ R.low b.base (len b);
      later : Placed R (R.high b.base (len b)) bs;
    }

-- what the rules of every area keep. Interface of the proofs: no demand rests on it
pub record Sound (R : Rules) : Type 0 where
  pub low_base : (b l : ℕ) → R.fits b l ≡ true → R.low b l ≤ b
  pub high_end : (b l : ℕ) → b + l ≤ R.high b l
  pub in_inside : (b l a : ℕ) → R.fits b l ≡ true → b ≤ a → a < b + l → R.inside a ≡ true
  pub in_top : (a : ℕ) → R.inside a ≡ true → a < R.top
