-- Document 01, the heap layout: the player's, of 8-byte segments and four-byte numbers. Every a, base and segment is an address. Assumes nothing.
use Rattle.std.specs.Prelude.{Bool, false, cond, not, ◌||◌, List, ℕ, ◌+◌, ◌*◌, ◌-◌, ◌/◌, ◌%◌, take, drop, leb, ltb, eqb}
use Rattle.types.specs.Block.{Block, len}
use Rattle.types.specs.Reading.{Reading, nothing, block, damaged}
use Rattle.specification.specs.Numbers.{byte_of, word, bit_of, of_bits, at}
use Rattle.specification.specs.Map.{Map, good, heap_end, heap_position, heap_at}
use Rattle.specification.specs.Form.{Form}

-- ---- the bytes that a block gives to its place

-- byte i of a header: four zeros, then the length
abbrev pub header_byte : (L i : ℕ) → ℕ
header_byte L i = cond (ltb i 4) 0 (byte_of L (i - 4))

-- byte i of the segment at offset d: d + 1 in four bytes; then the written bits of its eight bytes, bit j for byte j, none past the block's end; then
-- zeros
abbrev pub segment_byte : (d : ℕ) (marks : List Bool) (i : ℕ) → ℕ
segment_byte d marks i = cond (ltb i 4) (byte_of (d + 1) i) (cond (eqb i 4) (of_bits (take 8 (drop d marks))) 0)

-- the byte of an address of the place: the header is the segment before the base, the segments begin at the base
unfoldable pub heap_byte : Block → (a : ℕ) → ℕ
heap_byte b a =
    cond (ltb a b.base) (header_byte (len b) (a + 8 - b.base))
    (segment_byte ((a - b.base) / 8 * 8) b.marks ((a - b.base) % 8))

-- ---- the reading of an address a of the heap. h is the heap shadow

-- the address where a's segment begins
abbrev pub segment_of : Map → (a : ℕ) → ℕ
segment_of m a = a - heap_position m a % 8

-- the number in the four shadow bytes from an address on
abbrev pub number_at : Map → (heap : List ℕ) → (a : ℕ) → ℕ
number_at m h a = word (at h) (heap_position m a) 4

-- the written bits stand in byte 4 of the segment, bit j for byte j
abbrev pub bits_at : Map → (a : ℕ) → ℕ
bits_at m a = segment_of m a + 4

abbrev pub bit_number : Map → (a : ℕ) → ℕ
bit_number m a = a - segment_of m a

unfoldable pub read_heap : Map → (heap : List ℕ) → (a : ℕ) → Reading
read_heap m h a =
    let segment = segment_of m a in
    let w = number_at m h segment in
    -- w = 0: no block
    cond (eqb w 0) nothing
    -- d = w − 1 is the segment's offset in its block. Damaged: it is no multiple of 8, or the base lies below heap start + 8
    (let d = w - 1 in
    cond (not (eqb (d % 8) 0) || ltb segment (m.heap_start + 8 + d)) damaged
    -- the length is the second number of the header, which ends at the base. Damaged: it is 0, or the block leaves the area, or d is not below it
    (let base = segment - d in
    let L = number_at m h (base - 4) in
    cond (eqb L 0 || ltb (heap_end m) (base + L) || leb L d) damaged
    -- past the block's end: no block
    (let offset = a - base in
    cond (leb L offset) nothing
    (block base L offset (bit_of (heap_at m h (bits_at m a)) (bit_number m a)) false))))

abbrev pub player : Form
player = record { good = good; segment = 8; byte = heap_byte; read = read_heap; bits_at = bits_at; bit_number = bit_number }
