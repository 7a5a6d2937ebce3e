-- The codes of the stack layout: what byte i of a block of length L has in primary and secondary. Assumes nothing.
use Rattle.std.specs.Prelude.{Bool, cond, ℕ, zero, suc, ◌+◌, ◌*◌, ◌-◌, ◌/◌, min, leb, ltb}
use Rattle.number.specs.Little.{byte_of}
use Rattle.number.specs.Bits.{bit}

-- Table 1: the code of byte i of a block of length 1 to 8
unfoldable pub short_code : (L i : ℕ) → ℕ
short_code L i = L * (L - 1) / 2 + i + 1

-- the offset of the piece that holds byte i of a block of length 9 or more: pieces begin at 0, 8, 16 and so on, L / 8 of them,
-- and the last takes the remainder
unfoldable pub piece_of : (L i : ℕ) → ℕ
piece_of L i = 8 * min (i / 8) (L / 8 - 1)

unfoldable pub code_of : (L i : ℕ) → ℕ
code_of L i = cond (leb L 8) (short_code L i) (48 + (i - piece_of L i))

-- the secondary byte j places into the piece at offset o: L in four bytes, o in four bytes, zeros
unfoldable pub piece_byte : (L o j : ℕ) → ℕ
piece_byte L o j = cond (ltb j 4) (byte_of L j) (cond (ltb j 8) (byte_of o (j - 4)) 0)

-- the two low bits of a primary byte: bit 0 where the byte is written, bit 1 where its block is a literal
unfoldable pub low_bits : (literal written : Bool) → ℕ
low_bits t w = 2 * bit t + bit w

-- primary byte = 4 × code + low bits
unfoldable pub primary_of : (L i m : ℕ) → ℕ
primary_of L i m = 4 * code_of L i + m

unfoldable pub secondary_of : (L i : ℕ) → ℕ
secondary_of L i = cond (leb L 8) 0 (piece_byte L (piece_of L i) (i - piece_of L i))

-- Table 1 from code to length: the greatest L of 1 to n whose first code is at most c
unfoldable pub length_from : (n c : ℕ) → ℕ
length_from zero c = 0
length_from (suc n) c = cond (leb (short_code (suc n) 0) c) (suc n) (length_from n c)

-- the length and the offset that a code of 1 to 36 tells
unfoldable pub short_length : (c : ℕ) → ℕ
short_length c = length_from 8 c

unfoldable pub short_offset : (c : ℕ) → ℕ
short_offset c = c - short_code (short_length c) 0
