-- The reading of a position of two stack shadows, for all bytes. Assumes nothing.
use Rattle.std.specs.Prelude.{Bool, cond, ◌&&◌, ◌||◌, not, List, [], ◌∷◌, ℕ, ◌+◌, ◌-◌, ◌/◌, ◌%◌, leb, ltb, eqb}
use Rattle.number.specs.Little.{word}
use Rattle.number.specs.Parts.{tab}
use Rattle.plain.specs.Reading.{Reading, nothing, block, damaged}
use Rattle.stack_layout.specs.Code.{short_length, short_offset}

-- position p is byte i of a block of length L, m the two low bits of its primary byte: damaged where that block does not fit an area of this size
unfoldable pub fitted : (size p L i m : ℕ) → Reading
fitted size p L i m = cond (ltb p i || ltb (size + i) (p + L)) damaged (block (p - i) L i (m % 2) (eqb (m / 2 % 2) 1))

-- length L and piece offset o cannot stand in a piece that has a byte j. The last piece is the one with L < o + 16
unfoldable pub bad_piece : (L o j : ℕ) → Bool
bad_piece L o j = ltb L 9 || not (eqb (o % 8) 0) || ltb L (o + 8) || (ltb 7 j && leb (o + 16) L) || leb L (o + j)

-- position p is j places into a piece, whose first eight secondary bytes hold L and o
unfoldable pub long_reading : (size : ℕ) → (secondary : ℕ → ℕ) → (p j m : ℕ) → Reading
long_reading size se p j m =
    let t = p - j in
    let L = word se t 4 in
    let o = word se (t + 4) 4 in
    cond (ltb p j || ltb (size + j) (p + 8)) damaged
    (cond (bad_piece L o j) damaged
    (fitted size p L (o + j) m))

-- code 0 stands for no block, and no low bit is set with it
unfoldable pub code_reading : (size : ℕ) → (secondary : ℕ → ℕ) → (p code m : ℕ) → Reading
code_reading size se p code m =
    cond (eqb code 0) (cond (eqb m 0) nothing damaged)
    (cond (leb code 36) (fitted size p (short_length code) (short_offset code) m)
    (cond (ltb code 48 || ltb 62 code) damaged (long_reading size se p (code - 48) m)))

-- primary byte: the code stands above two low bits, bit 1 for a literal, bit 0 for written
unfoldable pub stack_reading : (size : ℕ) → (primary secondary : ℕ → ℕ) → (p : ℕ) → Reading
stack_reading size pr se p = code_reading size se p (pr p / 4) (pr p % 4)

-- a byte of the stack's shadows
pub data Place : Type 0 where
  primary : (q : ℕ) → Place
  secondary : (q : ℕ) → Place

-- the shadow bytes that the reading of position p looks at: the primary byte and, for a code of 48 to 62, eight secondary bytes
unfoldable pub stack_looks : (pr : ℕ → ℕ) → (p : ℕ) → List Place
stack_looks pr p = primary p ∷ cond (leb 48 (pr p / 4) && leb (pr p / 4) 62) (tab (p - (pr p / 4 - 48)) 8 secondary) []
