-- The stack layout: what a list of blocks makes of each byte of the primary and the secondary shadow. Positions. Assumes nothing.
use Rattle.std.specs.Prelude.{List, ℕ, ◌-◌}
use Rattle.number.specs.Parts.{tab}
use Rattle.plain.specs.Block.{Block, len, contains, is_written}
use Rattle.plain.specs.Layer.{layer}
use Rattle.stack_layout.specs.Code.{low_bits, primary_of, secondary_of}

-- what a block makes of the byte at position q that it holds
unfoldable pub primary_own : Block → (q : ℕ) → ℕ
primary_own b q = primary_of (len b) (q - b.base) (low_bits b.literal (is_written b q))

unfoldable pub secondary_own : Block → (q : ℕ) → ℕ
secondary_own b q = secondary_of (len b) (q - b.base)

-- a byte of the image: what the block that holds it makes of it, else 0
abbrev pub by_block : (Block → ℕ → ℕ) → List Block → (q : ℕ) → ℕ
by_block own = layer (λ b q. contains q b) own 0

abbrev pub primary_byte : List Block → (q : ℕ) → ℕ
primary_byte = by_block primary_own

abbrev pub secondary_byte : List Block → (q : ℕ) → ℕ
secondary_byte = by_block secondary_own

-- primary and secondary of an area of this size
unfoldable pub stack_image : (size : ℕ) → List Block → List ℕ × List ℕ
stack_image size bs = (tab 0 size (primary_byte bs), tab 0 size (secondary_byte bs))
