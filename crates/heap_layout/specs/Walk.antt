-- The audit's walk over the segments of a heap shadow: the blocks of which it is the image, or bad. Assumes nothing.
use Rattle.std.specs.Prelude.{Bool, true, false, cond, ◌&&◌, List, [], ℕ, zero, suc, ◌+◌, ◌*◌, ◌-◌, min, leb, eqb}
use Rattle.number.specs.Little.{word}
use Rattle.number.specs.Parts.{tab}
use Rattle.plain.specs.Found.{Found, bad, got, goes_on, begins}
use Rattle.heap_layout.specs.Image.{Cell, free, header, segment, cell_byte}
use Rattle.heap_layout.specs.Reading.{written_bit}

-- f and g agree at the n places from q on
unfoldable pub agree : (f g : ℕ → ℕ) → (q n : ℕ) → Bool
agree f g q zero = true
agree f g q (suc n) = eqb (f q) (g q) && agree f g (suc q) n

module _ (W G size : ℕ) (f : ℕ → ℕ) where
  -- segment s of the shadow is what the layout gives for this cell
  unfoldable pub matches : (s : ℕ) → Cell → Bool
  matches s c = agree (λ r. f (s * G + r)) (cell_byte W c) 0 G

  -- the marks of the first n bytes of segment s
  unfoldable pub marks_at : (s n : ℕ) → List Bool
  marks_at s n = tab 0 n (λ r. eqb (written_bit W G f (s * G + r)) 1)

  -- n segments are left, from s on. L is the length of the block that goes on at s, d its offset there; L is 0 where none goes on
  unfoldable pub heap_walk : (n s L d : ℕ) → Found
  heap_walk zero s L d = cond (eqb L 0) (got [] []) bad
  heap_walk (suc n) s L d =
      let H = word f (s * G + W) W in
      let ms = marks_at s (min G (L - d)) in
      cond (eqb L 0)
      -- no block goes on: the segment is free, or the header of a block that fits
      (cond (matches s free) (heap_walk n (suc s) 0 0)
      (cond (leb 1 H && leb (suc s * G + H) size && matches s (header H)) (begins (suc s * G) false (heap_walk n (suc s) H 0)) bad))
      -- a block goes on: the segment is its next one
      (cond (matches s (segment d ms)) (goes_on ms (heap_walk n (suc s) (cond (leb L (d + G)) 0 L) (d + G))) bad)
