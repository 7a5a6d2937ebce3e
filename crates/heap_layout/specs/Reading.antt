-- The reading of a position of a heap shadow, for all bytes. Assumes nothing.
use Rattle.std.specs.Prelude.{false, cond, not, List, [], ◌∷◌, ◌++◌, ℕ, ◌+◌, ◌*◌, ◌-◌, ◌/◌, ◌%◌, leb, ltb, eqb}
use Rattle.number.specs.Little.{word}
use Rattle.number.specs.Bits.{bit_of}
use Rattle.number.specs.Parts.{tab}
use Rattle.plain.specs.Reading.{Reading, nothing, block, damaged}

module _ (W G : ℕ) where
  -- the place of the written bits of position p
  abbrev pub bits_place : (p : ℕ) → ℕ
  bits_place p = p / G * G + (W + p % G / 8)

  -- the written bit of position p, f the bytes
  abbrev pub written_bit : (ℕ → ℕ) → (p : ℕ) → ℕ
  written_bit f p = bit_of (f (bits_place p)) (p % G % 8)

  -- the reading of position p in an area of this size, f the shadow's bytes.
  -- s: where the segment begins. w: the number in its first W bytes. Base = s − (w − 1), in whole numbers: base < G where s < (w − 1) + G
  unfoldable pub heap_reading : (size : ℕ) → (f : ℕ → ℕ) → (p : ℕ) → Reading
  heap_reading size f p =
      let s = p / G * G in
      let w = word f s W in
      let d = w - 1 in
      let base = s - d in
      let L = word f (base - G + W) W in
      let o = p - base in
      cond (eqb w 0) nothing
      (cond (not (eqb (d % G) 0)) damaged
      (cond (ltb s (d + G)) damaged
      (cond (eqb L 0) damaged
      (cond (ltb size (base + L)) damaged
      (cond (leb L d) damaged
      (cond (leb L o) nothing
      (block base L o (written_bit f p) false)))))))

  -- no shadow byte but these matters to the reading of position p: the segment's number, the length in the header that it tells, the byte of
  -- written bits
  unfoldable pub heap_looks : (f : ℕ → ℕ) → (p : ℕ) → List ℕ
  heap_looks f p =
      let s = p / G * G in
      let base = s - (word f s W - 1) in
      tab s W (λ q. q) ++ (tab (base - G + W) W (λ q. q) ++ (bits_place p ∷ []))
