-- Laws of the codes: the pieces of a long block, the numbers in its secondary bytes, and the bounds of every byte. Assumes nothing.
use mathlib.Core.Path.{◌≡◌}
use mathlib.Core.Bool.{Bool, true, false, cond}
use Prim.Native.Nat.{ℕ, ◌+◌, ◌*◌, ◌-◌, ◌/◌, ◌%◌, ◌^◌, ◌≤◌, ◌<◌}
use native.Mathlib.Omega.{arith}
use native.Mathlib.Nat.{add-sub_cancel_left}
use lib.Dec.{leb}
use borrow.Author.Tests.{lt-ltb, le-ltb, lt-leb, leb-true, leb-false}
use Rattle.number.specs.Little.{word}
use Rattle.number.proofs.TestLaws.{Test, is_true, is_false, test}
use Rattle.number.specs.Bits.{bit}
use Rattle.number.proofs.LittleLaws.{word_of}
use Rattle.number.proofs.BitLaws.{bit-lt}
use Rattle.stack_layout.specs.Code.{short_code, piece_of, code_of, piece_byte, low_bits, primary_of, secondary_of}
use Rattle.stack_layout.proofs.TableLaws.{encoded}

-- ---- pieces

-- the piece at offset o holds byte i of a block of length L
pub record Piece (L i o : ℕ) : Type 0 where
  pub le : o ≤ i
  pub near : i < o + 15
  pub whole : o + 8 ≤ L
  pub eights : o % 8 ≡ 0
  pub last : o + 8 ≤ i → L < o + 16

pub piece : (L i : ℕ) → 9 ≤ L → i < L → Piece L i (piece_of L i)
unfolding piece_of
piece L i h k = omega arith

-- the first eight bytes of a piece are in that piece
pub piece-same : (L i j : ℕ) → 9 ≤ L → i < L → j < 8 → piece_of L (piece_of L i + j) ≡ piece_of L i
unfolding piece_of
piece-same L i j h k l = omega arith

pub piece-zero : (L : ℕ) → piece_of L 0 ≡ 0
unfolding piece_of
piece-zero L = omega arith

-- the secondary bytes of the piece of byte i tell the length and the piece's offset
pub secondary-words : (L i : ℕ) (se : ℕ → ℕ) (base : ℕ) → 9 ≤ L → i < L → L < 256 ^ 4
    → ((q : ℕ) → base ≤ q → q < base + L → se q ≡ secondary_of L (q - base))
    → (word se (base + piece_of L i) 4 ≡ L) × (word se (base + piece_of L i + 4) 4 ≡ piece_of L i)
unfolding secondary_of piece_byte
secondary-words L i se base n h s own =
    let o : ℕ = piece_of L i in
    let P : Piece L i o = piece L i n h in
    let b : o + 8 ≤ L = P.whole in (
      word_of se 4 (base + o) L (λ j k.
          let e : base + o + j - base ≡ o + j = omega arith in
          rw (own (base + o + j) (omega arith) (omega arith), e, piece-same L i j n h (omega arith), lt-leb L 8 n, add-sub_cancel_left o j, lt-ltb j 4 k)) s,
      word_of se 4 (base + o + 4) o (λ j k.
          let e : base + o + 4 + j - base ≡ o + (4 + j) = omega arith in
          rw (
            own (base + o + 4 + j) (omega arith) (omega arith),
            e,
            piece-same L i (4 + j) n h (omega arith),
            lt-leb L 8 n,
            add-sub_cancel_left o (4 + j),
            le-ltb (4 + j) 4 (omega arith),
            lt-ltb (4 + j) 8 (omega arith),
            add-sub_cancel_left 4 j,
          )) (omega arith),
    )

-- ---- bounds

pub code-pos : (L i : ℕ) → 1 ≤ code_of L i
unfolding code_of short_code
code-pos L i = go (leb L 8)
  where
    go : (t : Bool) → 1 ≤ cond t (L * (L - 1) / 2 + i + 1) (48 + (i - piece_of L i))
    go true = omega arith
    go false = omega arith

pub code_lt : (L i : ℕ) → i < L → code_of L i < 63
unfolding code_of
code_lt L i h = go (test (leb L 8))
  where
    go : Test (leb L 8) → cond (leb L 8) (short_code L i) (48 + (i - piece_of L i)) < 63
    go (is_true e) = rw e (omega (arith, (encoded L i (leb-true L 8 e) h).most))
    go (is_false e) = rw e (omega (arith, (piece L i (leb-false L 8 e) h).near))

-- ---- the low bits

pub low-lt : (t w : Bool) → low_bits t w < 4
unfolding low_bits
low-lt t w = omega (arith, bit-lt t, bit-lt w)

pub low-written : (t w : Bool) → low_bits t w % 2 ≡ bit w
unfolding low_bits
low-written t w = omega (arith, bit-lt w)

pub low-literal : (t w : Bool) → low_bits t w / 2 % 2 ≡ bit t
unfolding low_bits
low-literal t w = omega (arith, bit-lt t, bit-lt w)

-- ---- a primary byte taken apart

-- code and low bits
pub record Apart (x c m : ℕ) : Type 0 where
  pub code : x / 4 ≡ c
  pub low : x % 4 ≡ m
  pub mark : x / 2 % 2 ≡ m / 2 % 2
  pub bit : x % 2 ≡ m % 2

pub primary-apart : (L i m : ℕ) → m < 4 → Apart (primary_of L i m) (code_of L i) m
unfolding primary_of
primary-apart L i m h = omega arith

pub primary-pos : (L i m : ℕ) → 1 ≤ primary_of L i m
unfolding primary_of
primary-pos L i m = omega (arith, code-pos L i)
