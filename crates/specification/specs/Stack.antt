-- Document 01, the stack layout, with S-5: bit 1 of a primary byte says that its block is a literal. Every a and base is an address. Assumes nothing.
use Rattle.std.specs.Prelude.{Bool, false, cond, not, ◌&&◌, ◌||◌, List, ℕ, ◌+◌, ◌*◌, ◌-◌, ◌/◌, ◌%◌, min, get_or, leb, ltb, eqb}
use Rattle.types.specs.Block.{Block, len}
use Rattle.types.specs.Reading.{Reading, nothing, block, damaged}
use Rattle.specification.specs.Numbers.{byte_of, word, bit, at}
use Rattle.specification.specs.Map.{Map, stack_end, stack_position}

-- ---- the bytes that a block gives to its addresses

-- the longest short block, and the code of the first byte of a piece
abbrev pub longest_short : ℕ
longest_short = 8

abbrev pub piece_code : ℕ
piece_code = 48

-- Table 1: the code of the byte at an offset of a block of 1 to 8 bytes. For L ≥ 1 the subtraction is exact
unfoldable pub short_code : (L offset : ℕ) → ℕ
short_code L offset = L * (L - 1) / 2 + offset + 1

-- a long block has a piece at each multiple of 8, ⌊L / 8⌋ in all, and what remains joins the last. The offset of the last piece, and of the one that has
-- the byte at an offset
abbrev pub last_piece : (L : ℕ) → ℕ
last_piece L = 8 * (L / 8 - 1)

unfoldable pub piece_of : (L offset : ℕ) → ℕ
piece_of L offset = 8 * min (offset / 8) (L / 8 - 1)

-- the code of the byte at an offset: of a short block by Table 1, of a long one by how many places it stands into its piece
unfoldable pub code_of : (L offset : ℕ) → ℕ
code_of L offset = cond (leb L longest_short) (short_code L offset) (piece_code + (offset - piece_of L offset))

-- four times the code, 2 for a literal, 1 if the byte is written
unfoldable pub primary_byte : Block → (a : ℕ) → ℕ
primary_byte b a = 4 * code_of (len b) (a - b.base) + (2 * bit b.literal + bit (get_or b.marks (a - b.base) false))

-- the byte that stands j places into the piece at offset o: the length in four bytes, o in four bytes, then zeros
unfoldable pub piece_byte : (L o j : ℕ) → ℕ
piece_byte L o j = cond (ltb j 4) (byte_of L j) (cond (ltb j 8) (byte_of o (j - 4)) 0)

-- those of a long block lie in its pieces; of a short one they are zero
unfoldable pub secondary_byte : Block → (a : ℕ) → ℕ
secondary_byte b a =
    let L = len b in
    let o = piece_of L (a - b.base) in
    cond (leb L longest_short) 0 (piece_byte L o (a - b.base - o))

-- ---- the reading of an address a of the stack

-- Table 1 from codes 1 to 36 back to lengths: the first codes of the lengths 1 to 8 are 1, 2, 4, 7, 11, 16, 22, 29
unfoldable pub short_length : (code : ℕ) → ℕ
short_length c =
    cond (leb 29 c) 8 (cond (leb 22 c) 7 (cond (leb 16 c) 6 (cond (leb 11 c) 5 (cond (leb 7 c) 4 (cond (leb 4 c) 3 (cond (leb 2 c) 2 1))))))

-- and to offsets
abbrev pub short_offset : (code : ℕ) → ℕ
short_offset c = c - short_code (short_length c) 0

-- a is the byte at this offset of a block of length L. Damaged: the block does not lie in the area
unfoldable pub found : Map → (a L offset written : ℕ) (literal : Bool) → Reading
found m a L offset written literal =
    cond (ltb a (m.stack_start + offset)) damaged
    (let base = a - offset in
    cond (ltb (stack_end m) (base + L)) damaged (block base L offset written literal))

-- a stands j places into a piece, whose first eight secondary bytes are L and o
unfoldable pub read_long : Map → (secondary : List ℕ) → (a j written : ℕ) (literal : Bool) → Reading
read_long m secondary a j written literal =
    -- damaged: the eight bytes leave the area
    cond (ltb a (m.stack_start + j)) damaged
    (let piece = a - j in
    cond (ltb (stack_end m) (piece + 8)) damaged
    (let L = word (at secondary) (stack_position m piece) 4 in
    let o = word (at secondary) (stack_position m piece + 4) 4 in
    -- damaged: too short for a long block; no place for a piece; a piece that the block has no room for; past eight bytes, in a piece that is not the
    -- last; past the block's end
    cond
    (ltb L 9
    || not (eqb (o % 8) 0)
    || ltb L (o + 8)
    || (ltb 7 j && not (eqb o (last_piece L)))
    || leb L (o + j)) damaged
    (found m a L (o + j) written literal)))

unfoldable pub read_stack : Map → (primary secondary : List ℕ) → (a : ℕ) → Reading
read_stack m primary secondary a =
    let byte = at primary (stack_position m a) in
    let code = byte / 4 in
    let written = byte % 2 in
    let literal = eqb (byte / 2 % 2) 1 in
    -- code 0: no block; damaged with a written bit or (S-5) with bit 1
    cond (eqb code 0) (cond (eqb byte 0) nothing damaged)
    -- codes 1 to 36, a short block
    (cond (leb code 36) (found m a (short_length code) (short_offset code) written literal)
    -- damaged: codes 37 to 47, and 63
    (cond (ltb code piece_code || leb 63 code) damaged
    (read_long m secondary a (code - piece_code) written literal)))
