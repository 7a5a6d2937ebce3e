-- A live block, and what it holds. Addresses and lengths are whole numbers. Assumes nothing.
use Rattle.std.specs.Prelude.{Bool, true, false, ◌&&◌, ℕ, zero, suc, ◌+◌, ◌-◌, get_or, set, replicate, leb, ltb, eqb}
use Rattle.types.specs.declared.Beginning.{Beginning}
use Rattle.types.specs.declared.Beginning.TheVariants.{Unwritten, Written, Literal}
pub use Rattle.types.specs.Block.{Block, len}

-- how a block begins: is every byte of it written, or none; is it a literal
abbrev pub starts_written : Beginning → Bool
starts_written Unwritten = false
starts_written Written = true
starts_written Literal = true

abbrev pub starts_literal : Beginning → Bool
starts_literal Unwritten = false
starts_literal Written = false
starts_literal Literal = true

-- a block as it begins
abbrev pub begun : (how : Beginning) (base length : ℕ) → Block
begun h b l = record { base = b; marks = replicate l (starts_written h); literal = starts_literal h }

-- the block holds the address
abbrev pub contains : ℕ → Block → Bool
contains a b = leb b.base a && ltb a (b.base + len b)

-- the block holds the n addresses from a on
unfoldable pub holds : (a n : ℕ) → Block → Bool
holds a n b = leb b.base a && leb (a + n) (b.base + len b)

abbrev pub has_base : ℕ → Block → Bool
has_base x b = eqb b.base x

-- the byte at an address that the block holds is written
abbrev pub is_written : Block → ℕ → Bool
is_written b a = get_or b.marks (a - b.base) false

-- each of the n addresses from a on, which the block holds, is written
unfoldable pub all_written : (a n : ℕ) → Block → Bool
all_written a zero b = true
all_written a (suc n) b = is_written b a && all_written (suc a) n b

-- the byte at an address that the block holds counts as written
abbrev pub mark_block : ℕ → Block → Block
mark_block a b = record { base = b.base; marks = set b.marks (a - b.base) true; literal = b.literal }
