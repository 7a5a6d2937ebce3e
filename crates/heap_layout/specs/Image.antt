-- The heap layout for numbers of W bytes and segments of G bytes: what a list of blocks makes of each shadow byte. Positions.
-- Assumes nothing.
use Rattle.std.specs.Prelude.{Bool, cond, ◌&&◌, List, ℕ, suc, ◌+◌, ◌*◌, ◌-◌, ◌/◌, ◌%◌, take, drop, leb, ltb, eqb}
use Rattle.number.specs.Little.{byte_of}
use Rattle.number.specs.Bits.{of_bits}
use Rattle.number.specs.Parts.{tab}
use Rattle.plain.specs.Block.{Block, len}
use Rattle.plain.specs.Areas.{segments}
use Rattle.plain.specs.Layer.{layer}

-- what a segment of the shadow stands for: no block, the header of a block of this length, or the segment at this offset of a
-- block, with the marks of the block's bytes in it
pub data Cell : Type 0 where
  free : Cell
  header : (length : ℕ) → Cell
  segment : (offset : ℕ) → (marks : List Bool) → Cell

-- byte r of a segment. A header: W zeros, then the length in W bytes. A segment: offset + 1 in W bytes, then the written bits, bit j
-- of byte W + k for byte 8 k + j of the segment. All others are zero
unfoldable pub cell_byte : (W : ℕ) → Cell → (r : ℕ) → ℕ
cell_byte W free r = 0
cell_byte W (header L) r = cond (ltb r W) 0 (cond (ltb r (W + W)) (byte_of L (r - W)) 0)
cell_byte W (segment d ms) r = cond (ltb r W) (byte_of (d + 1) r) (of_bits (take 8 (drop (8 * (r - W)) ms)))

-- segment s is the block's header or one of its segments
unfoldable pub covers : (G : ℕ) → Block → (s : ℕ) → Bool
covers G b s = leb (b.base / G) (suc s) && ltb s (b.base / G + segments G (len b))

-- what the block makes of segment s
unfoldable pub own : (G : ℕ) → Block → (s : ℕ) → Cell
own G b s =
    cond (eqb (suc s) (b.base / G)) (header (len b))
    (segment ((s - b.base / G) * G) (take G (drop ((s - b.base / G) * G) b.marks)))

-- segment s of the image
abbrev pub segment_of : (G : ℕ) → List Block → (s : ℕ) → Cell
segment_of G = layer (covers G) (own G) free

-- byte q of the image
unfoldable pub heap_byte : (W G : ℕ) → List Block → (q : ℕ) → ℕ
heap_byte W G bs q = cell_byte W (segment_of G bs (q / G)) (q % G)

-- the image of a list of blocks in a shadow of this size
unfoldable pub heap_image : (W G size : ℕ) → List Block → List ℕ
heap_image W G size bs = tab 0 size (heap_byte W G bs)
