-- Two numbers of W bytes, one after the other, and cells as such. Assumes nothing.
use mathlib.Core.Path.{◌≡◌, ap, ◌∙◌}
use mathlib.Core.Bool.{Bool, cond}
use mathlib.Core.List.{List, [], ◌∷◌}
use Prim.Native.Nat.{ℕ, zero, suc, ◌+◌, ◌*◌, ◌-◌, ◌/◌, ◌^◌, ◌<◌}
use native.Mathlib.Omega.{arith}
use native.Mathlib.Nat.{mul-zero, mul_comm, mul_assoc, pow-suc}
use lib.ListN.{length, take, drop, length-take}
use lib.Seq.{drop-drop}
use lib.Dec.{ltb}
use lib.Pow.{pow_mono}
use borrow.Author.Tests.{lt-ltb, le-ltb}
use Rattle.number.specs.Little.{byte_of}
use Rattle.number.specs.Bits.{of_bits}
use Rattle.number.specs.Parts.{over}
use Rattle.number.proofs.TestLaws.{Test, is_true, is_false, test}
use Rattle.number.proofs.LittleLaws.{byte_of-zero}
use Rattle.number.proofs.BitLaws.{of_bits-lt}
use Rattle.number.proofs.PartLaws.{over-next, over-ext}
use Rattle.heap_layout.specs.Image.{free, header, segment, cell_byte}
use Rattle.heap_laws.specs.Pair.{pair_byte}

-- two numbers, one after the other
pub pair-over : (W a low high : ℕ) (h : List ℕ)
    → over (a + W) W (λ q. byte_of high (q - (a + W))) (over a W (λ q. byte_of low (q - a)) h) ≡ over a (W + W) (λ q. pair_byte W low high (q - a)) h
unfolding pair_byte
pair-over W a low high h =
    ap (over (a + W) W (λ q. byte_of high (q - (a + W))))
    (over-ext a W (λ q. byte_of low (q - a)) (λ q. pair_byte W low high (q - a)) h (λ q x y. rw (lt-ltb (q - a) W (omega arith))))
    ∙ over-next a W W (λ q. pair_byte W low high (q - a)) (λ q. byte_of high (q - (a + W))) h
    (λ q x y. let e : q - a - W ≡ q - (a + W) = omega arith in rw (le-ltb (q - a) W (omega arith), e))

-- ---- cells

pub cell_free : (W r : ℕ) → cell_byte W free r ≡ pair_byte W 0 0 r
unfolding cell_byte pair_byte
cell_free W r = go (test (ltb r W))
  where
    go : Test (ltb r W) → 0 ≡ cond (ltb r W) (byte_of 0 r) (byte_of 0 (r - W))
    go (is_true e) = rw (e, byte_of-zero r)
    go (is_false e) = rw (e, byte_of-zero (r - W))

pub cell-header : (W L r : ℕ) → r < W + W → cell_byte W (header L) r ≡ pair_byte W 0 L r
unfolding cell_byte pair_byte
cell-header W L r h = rw (lt-ltb r (W + W) h, byte_of-zero r)

-- the first n bits, and the others
bits-split : (n : ℕ) (ms : List Bool) → of_bits ms ≡ of_bits (take n ms) + 2 ^ n * of_bits (drop n ms)
unfolding of_bits
bits-split zero ms = omega arith
bits-split (suc n) [] = rw (mul-zero (2 ^ suc n))
bits-split (suc n) (m ∷ ms) =
    let e : 2 ^ suc n * of_bits (drop n ms) ≡ 2 * (2 ^ n * of_bits (drop n ms)) = rw (pow-suc 2 n, mul_comm (2 ^ n) 2, mul_assoc) in
    omega (arith, e, bits-split n ms)

first-eight : (ms : List Bool) → of_bits (take 8 ms) < 256
first-eight ms = omega (arith, of_bits-lt (take 8 ms), pow_mono {i = length (take 8 ms)} {j = 8} (simp length-take (omega arith)))

-- byte i of the number has eight of the bits, or those that are left
byte-of : (ms : List Bool) (i : ℕ) → of_bits (take 8 (drop (8 * i) ms)) ≡ byte_of (of_bits ms) i
unfolding byte_of
byte-of ms zero = omega (arith, bits-split 8 ms, first-eight ms)
byte-of ms (suc i) =
    let e : 8 * suc i ≡ 8 + 8 * i = omega arith in
    let d : of_bits ms / 256 ≡ of_bits (drop 8 ms) = omega (arith, bits-split 8 ms, first-eight ms) in
    rw (e, d, ← drop-drop (8 * i) 8 ms) (byte-of (drop 8 ms) i)

pub cell-segment : (W d : ℕ) (ms : List Bool) (r : ℕ) → cell_byte W (segment d ms) r ≡ pair_byte W (d + 1) (of_bits ms) r
unfolding cell_byte pair_byte
cell-segment W d ms r = ap (cond (ltb r W) (byte_of (d + 1) r)) (byte-of ms (r - W))
