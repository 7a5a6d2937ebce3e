-- Whole blocks of four and of eight bytes, told by their primary bytes alone, f the bytes. Assumes nothing.
use Rattle.std.specs.Prelude.{Bool, cond, ◌&&◌, ◌||◌, ℕ, ◌+◌, ◌/◌, leb, eqb}
use Rattle.number.specs.Little.{word}
use Rattle.stack_layout.specs.Code.{code_of, primary_of}
use Rattle.stack_layout.specs.Ops.{with_written}

-- the word of the n bytes from p on is that of a block of n bytes, each written, which is no literal
unfoldable pub whole_written : (size : ℕ) → (f : ℕ → ℕ) → (p n : ℕ) → Bool
whole_written size f p n = (eqb n 4 || eqb n 8) && leb (p + n) size && eqb (word f p n) (word (λ i. primary_of n i 1) 0 n)

-- the same with the written bits set first, whatever is written
unfoldable pub whole_writable : (size : ℕ) → (f : ℕ → ℕ) → (p n : ℕ) → Bool
whole_writable size f p n = whole_written size (λ q. with_written (f q)) p n

-- the byte at p has the code of the first byte of a block of n bytes, which fits the area
unfoldable pub whole_from : (size : ℕ) → (f : ℕ → ℕ) → (p n : ℕ) → Bool
whole_from size f p n = eqb (f p / 4) (code_of n 0) && leb (p + n) size

-- the length of the block of four or eight bytes that begins at p, literal or not; 0 where none does
unfoldable pub whole_length : (size : ℕ) → (f : ℕ → ℕ) → (p : ℕ) → ℕ
whole_length size f p = cond (whole_from size f p 4) 4 (cond (whole_from size f p 8) 8 0)
