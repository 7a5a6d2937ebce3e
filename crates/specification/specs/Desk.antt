-- S-8: the desk's heap, of 16-byte segments and eight-byte numbers, and the rules of its map. Its stack is the player's, unchanged; its calls and its
-- plain list are the player's with 16 for 8 in heap segments, alignment and headers. Every a, base and segment is an address. Assumes nothing.
use Rattle.std.specs.Prelude.{Bool, false, cond, not, ◌&&◌, ◌||◌, List, ℕ, ◌+◌, ◌*◌, ◌-◌, ◌/◌, ◌%◌, take, drop, leb, ltb, eqb}
use Rattle.types.specs.Block.{Block, len}
use Rattle.types.specs.Reading.{Reading, nothing, block, damaged}
use Rattle.specification.specs.Numbers.{byte_of, word, bit_of, of_bits, at}
use Rattle.specification.specs.Map.{Map, most_heap, most_stack, most_end, heap_end, stack_end, are_apart, heap_position, heap_at}
use Rattle.specification.specs.Form.{Form}

-- ---- the map: of the heap start and size go by 16, and two segments are the least; every other rule is the player's

unfoldable pub good : Map → Bool
good m =
    eqb (m.heap_size % 16) 0 && eqb (m.stack_size % 8) 0 && eqb (m.heap_start % 16) 0 && eqb (m.stack_start % 8) 0
    && leb 32 m.heap_size && leb m.heap_size most_heap && leb 16 m.stack_size && leb m.stack_size most_stack
    && leb 8 m.heap_start && leb 8 m.stack_start && leb (heap_end m) most_end && leb (stack_end m) most_end
    && are_apart m

-- ---- the bytes that a block gives to its place

-- byte i of a header: eight zeros, then the length
abbrev pub header_byte : (L i : ℕ) → ℕ
header_byte L i = cond (ltb i 8) 0 (byte_of L (i - 8))

-- byte i of the segment at offset d: d + 1 in eight bytes; then the written bits of its first eight bytes, of its last eight; then zeros
abbrev pub segment_byte : (d : ℕ) (marks : List Bool) (i : ℕ) → ℕ
segment_byte d marks i =
    cond (ltb i 8) (byte_of (d + 1) i)
    (cond (eqb i 8) (of_bits (take 8 (drop d marks)))
    (cond (eqb i 9) (of_bits (take 8 (drop (d + 8) marks))) 0))

unfoldable pub desk_byte : Block → (a : ℕ) → ℕ
desk_byte b a =
    cond (ltb a b.base) (header_byte (len b) (a + 16 - b.base))
    (segment_byte ((a - b.base) / 16 * 16) b.marks ((a - b.base) % 16))

-- ---- the reading of an address a of the heap. h is the heap shadow

abbrev pub segment_of : Map → (a : ℕ) → ℕ
segment_of m a = a - heap_position m a % 16

-- the number in the eight shadow bytes from an address on
abbrev pub number_at : Map → (heap : List ℕ) → (a : ℕ) → ℕ
number_at m h a = word (at h) (heap_position m a) 8

-- no number of the desk needs more than 32 bits: a larger one is damage
abbrev pub is_huge : ℕ → Bool
is_huge v = leb 4294967296 v

-- the written bits of bytes 0 to 7 of the segment stand in its byte 8, those of bytes 8 to 15 in its byte 9
abbrev pub bits_at : Map → (a : ℕ) → ℕ
bits_at m a = segment_of m a + cond (ltb (a - segment_of m a) 8) 8 9

abbrev pub bit_number : Map → (a : ℕ) → ℕ
bit_number m a = (a - segment_of m a) % 8

-- the player's reading with 16 for 8; the length is the second number of the header
unfoldable pub read_desk : Map → (heap : List ℕ) → (a : ℕ) → Reading
read_desk m h a =
    let segment = segment_of m a in
    let w = number_at m h segment in
    cond (eqb w 0) nothing
    (let d = w - 1 in
    cond (is_huge w || not (eqb (d % 16) 0) || ltb segment (m.heap_start + 16 + d)) damaged
    (let base = segment - d in
    let L = number_at m h (base - 8) in
    cond (is_huge L || eqb L 0 || ltb (heap_end m) (base + L) || leb L d) damaged
    (let offset = a - base in
    cond (leb L offset) nothing
    (block base L offset (bit_of (heap_at m h (bits_at m a)) (bit_number m a)) false))))

abbrev pub desk : Form
desk = record { good = good; segment = 16; byte = desk_byte; read = read_desk; bits_at = bits_at; bit_number = bit_number }
