-- The audit's walk over the bytes of two stack shadows: the blocks of which they are the image, or bad. Assumes nothing.
use Rattle.std.specs.Prelude.{Bool, false, cond, ◌&&◌, ◌||◌, [], ◌∷◌, ℕ, zero, suc, ◌+◌, ◌/◌, ◌%◌, leb, eqb}
use Rattle.number.specs.Little.{word}
use Rattle.plain.specs.Found.{Found, bad, got, goes_on, begins}
use Rattle.stack_layout.specs.Code.{low_bits, primary_of, secondary_of, short_length}

module _ (size : ℕ) (pr se : ℕ → ℕ) where
  -- both bytes at q are zero
  unfoldable pub is_clear : (q : ℕ) → Bool
  is_clear q = eqb (pr q) 0 && eqb (se q) 0

  -- the written bit, and bit 1, of the primary byte at q
  abbrev pub is_marked : (q : ℕ) → Bool
  is_marked q = eqb (pr q % 2) 1

  abbrev pub says_literal : (q : ℕ) → Bool
  says_literal q = eqb (pr q / 2 % 2) 1

  -- the bytes at q are those of byte i of a block of length L: of a literal, written, or of another block, written or not
  unfoldable pub is_byte : (q L i : ℕ) (t : Bool) → Bool
  is_byte q L i t = eqb (pr q) (primary_of L i (low_bits t (t || is_marked q))) && eqb (se q) (secondary_of L i)

  -- the length that the first byte of a block tells
  unfoldable pub length_at : (q : ℕ) → ℕ
  length_at q = cond (leb (pr q / 4) 36) (short_length (pr q / 4)) (word se q 4)

  -- n bytes are left, from q on. L is the length of the block that goes on at q, i its offset there, t whether it is a literal; L is 0 where
  -- none goes on
  unfoldable pub stack_walk : (n q L i : ℕ) (t : Bool) → Found
  stack_walk zero q L i t = cond (eqb L 0) (got [] []) bad
  stack_walk (suc n) q L i t =
      let H = length_at q in
      let u = says_literal q in
      let m = is_marked q ∷ [] in
      let idle = stack_walk n (suc q) 0 0 false in
      let opens = stack_walk n (suc q) (cond (leb H 1) 0 H) 1 u in
      let goes = stack_walk n (suc q) (cond (leb L (suc i)) 0 L) (suc i) t in
      cond (eqb L 0)
      (cond (is_clear q) idle
      (cond (leb 1 H && leb (q + H) size && is_byte q H 0 u) (begins q u (goes_on m opens)) bad))
      (cond (is_byte q L i t) (goes_on m goes) bad)
