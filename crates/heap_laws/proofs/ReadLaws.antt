-- The reading of a position whose segment has a number, a base inside the area, and a length in its header. Assumes nothing.
use mathlib.Core.Path.{◌≡◌}
use mathlib.Core.Bool.{false, cond}
use Prim.Native.Nat.{ℕ, ◌+◌, ◌*◌, ◌-◌, ◌/◌, ◌%◌, ◌≤◌}
use native.Mathlib.Omega.{arith}
use lib.Dec.{leb, ltb, eqb}
use borrow.Author.Tests.{le-ltb, le-leb, eq-eqb, ne_eqb, eqb-true}
use Rattle.number.specs.Little.{word}
use Rattle.number.specs.Bits.{bit_of}
use Rattle.number.proofs.TestLaws.{Test, is_true, is_false, test}
use Rattle.plain.specs.Reading.{Reading, nothing, block, damaged}
use Rattle.heap_layout.specs.Reading.{bits_place, written_bit, heap_reading}

-- what is left to test, d the offset of the segment, L the length
abbrev pub told : (W G size : ℕ) → (f : ℕ → ℕ) → (p d L : ℕ) → Reading
told W G size f p d L =
    cond (ltb size (p / G * G - d + L)) damaged
    (cond (leb L d) damaged
    (cond (leb L (p - (p / G * G - d))) nothing
    (block (p / G * G - d) L (p - (p / G * G - d)) (written_bit W G f p) false)))

-- a length of 0 needs no test of its own
no_length : (W G size : ℕ) (f : ℕ → ℕ) (p d L : ℕ) → cond (eqb L 0) damaged (told W G size f p d L) ≡ told W G size f p d L
no_length W G size f p d L = go (test (eqb L 0)) (test (ltb size (p / G * G - d + L)))
  where
    go : Test (eqb L 0) → Test (ltb size (p / G * G - d + L)) → cond (eqb L 0) damaged (told W G size f p d L) ≡ told W G size f p d L
    go (is_false e) t = rw e
    go (is_true e) (is_true t) = rw (e, t)
    go (is_true e) (is_false t) = let z = eqb-true L 0 e in rw (e, t, le-leb L d (omega arith))

pub read_told : (W G size : ℕ) (f : ℕ → ℕ) (p w L : ℕ) → w ≡ word f (p / G * G) W → (w ≡ 0 → ⊥) → (w - 1) % G ≡ 0 → w - 1 + G ≤ p / G * G
    → L ≡ word f (p / G * G - (w - 1) - G + W) W → heap_reading W G size f p ≡ told W G size f p (w - 1) L
unfolding heap_reading
read_told W G size f p w L e n o h k =
    rw (← e, ne_eqb w 0 n, eq-eqb ((w - 1) % G) 0 o, le-ltb (p / G * G) (w - 1 + G) h, ← k) (no_length W G size f p (w - 1) L)

-- the written bit: bit j of byte k
pub bit-told : (W G : ℕ) (f : ℕ → ℕ) (p k j : ℕ) → k ≡ bits_place W G p → j ≡ p % G % 8 → written_bit W G f p ≡ bit_of (f k) j
bit-told W G f p k j e h = rw (e, h)
