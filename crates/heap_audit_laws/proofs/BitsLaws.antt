-- The written bits of a segment, as its second number. Assumes nothing.
use mathlib.Core.Path.{◌≡◌, refl, sym, ap, ◌∙◌}
use Prim.Native.Nat.{ℕ, zero, suc, ◌+◌, ◌*◌, ◌-◌, ◌/◌, ◌%◌, ◌^◌, ◌≤◌, ◌<◌}
use native.Mathlib.Omega.{arith}
use native.Mathlib.Nat.{add-zero, zero-add, add-suc, suc-add, add_assoc, mod-lt, div-eq_of_lt, div-one, pow-suc}
use native.Mathlib.Numerals.{add-one}
use lib.Dec.{eqb}
use lib.Arith.{digits_div, digits_mod}
use lib.Pow.{pow_pos, pow_mono, pow-add, shr-shr, split, field, mod-mod-pow}
use lib.Bits.{bit_or, or_mod, or_shr}
use lib.Count as count
use Rattle.number.specs.Little.{byte_of, word}
use Rattle.number.specs.Bits.{bit_of, of_bits, ones, ones_of}
use Rattle.number.specs.Parts.{tab}
use Rattle.number.proofs.LittleLaws.{byte_of-shift, word_of}
use Rattle.number.proofs.WordLaws.{byte_of-word}
use Rattle.number.proofs.BitLaws.{bit_test, of_bits-lt, ones-all, ones_of-list, or-zero}
use Rattle.number.proofs.PartLaws.{tab-ext}
use Rattle.heap_layout.specs.Reading.{written_bit}
use Rattle.heap_layout.specs.Walk.{marks_at}
use Rattle.heap_layout.proofs.WalkLaws.{length-marks}
use Rattle.heap_audit_laws.specs.Turn.{ones_at}

-- ---- bits of a number

-- the bits of a number from bit i on are the number shifted
bits-from : (n i b : ℕ) → b < 2 ^ (i + n) → of_bits (tab i n (λ r. eqb (bit_of b r) 1)) ≡ b / 2 ^ i
unfolding of_bits tab bit_of
bits-from zero i b h = sym (div-eq_of_lt (rw add-zero at h))
bits-from (suc n) i b h =
    let e : b / 2 ^ suc i ≡ b / 2 ^ i / 2 = sym (shr-shr b i 1 ∙ ap (λ (k : ℕ). b / 2 ^ k) (add-one i)) in
    rw (bit_test (b / 2 ^ i % 2) (omega arith), bits-from n (suc i) b (rw (suc-add i n, ← add-suc i n) h), e) (omega arith)

-- nothing is left above n bits
shifted-out : (b n : ℕ) → b / 2 ^ n ≡ 0 → b < 2 ^ n
shifted-out b n h = let e : 0 * 2 ^ n + b % 2 ^ n ≡ b = rw h at (split b n) in omega (arith, mod-lt b (pow_pos n))

-- a bit of the lowest byte
low_bit : (x k : ℕ) → k < 8 → bit_of (x % 256) k ≡ bit_of x k
unfolding bit_of
low_bit x k h =
    let a : 8 ≡ 8 - k + k = omega arith in
    let b : 8 - k ≡ 7 - k + 1 = omega arith in
    ap (λ (i : ℕ). x % 2 ^ i / 2 ^ k % 2) a ∙ ap (λ (y : ℕ). y % 2) (field x (8 - k) k)
    ∙ ap (λ (i : ℕ). x / 2 ^ k % 2 ^ i % 2) b ∙ mod-mod-pow (x / 2 ^ k) (7 - k) 1

bit_shifted : (x i j : ℕ) → bit_of (x / 2 ^ i) j ≡ bit_of x (i + j)
unfolding bit_of
bit_shifted x i j = ap (λ (y : ℕ). y % 2) (shr-shr x i j)

-- bit r of a number is one of its byte r / 8
bit_byte : (x r : ℕ) → bit_of (byte_of x (r / 8)) (r % 8) ≡ bit_of x r
bit_byte x r =
    let e : 8 * (r / 8) + r % 8 ≡ r = omega arith in
    rw (← byte_of-shift x (r / 8), low_bit (x / 2 ^ (8 * (r / 8))) (r % 8) (omega arith), bit_shifted x (8 * (r / 8)) (r % 8), e)

-- a power of 256 is one of 2
pub pow-bytes : (n : ℕ) → 2 ^ (8 * n) ≡ 256 ^ n
pow-bytes zero = refl
pow-bytes (suc n) = let e : 8 * suc n ≡ 8 * n + 8 = omega arith in rw (e, pow-add 2 (8 * n) 8, pow-bytes n, pow-suc 256 n)

-- numbers that are zero at their low bits, or above them, where their union is
pub or-low : (k a b : ℕ) → bit_or a b % 2 ^ k ≡ 0 → (a % 2 ^ k ≡ 0) × (b % 2 ^ k ≡ 0)
or-low k a b e = or-zero (a % 2 ^ k) (b % 2 ^ k) (sym (or_mod a b k) ∙ e)

pub or-high : (k a b : ℕ) → bit_or a b / 2 ^ k ≡ 0 → (a / 2 ^ k ≡ 0) × (b / 2 ^ k ≡ 0)
or-high k a b e = or-zero (a / 2 ^ k) (b / 2 ^ k) (sym (or_shr a b k) ∙ e)

-- ---- the ones of bytes

-- the ones of a number are those of its bytes
pub ones-word : (f : ℕ → ℕ) → ((q : ℕ) → f q < 256) → (n p : ℕ) → count.ones (word f p n) ≡ ones_at f p n
unfolding word ones_at count.ones
ones-word f b zero p = refl
ones-word f b (suc n) p =
    let e : f p + 256 * word f (suc p) n ≡ word f (suc p) n * 2 ^ 8 + f p = omega arith in
    rw (e, count.ones_cat 8 (word f (suc p) n) (f p) (b p), ones-word f b n (suc p), ones-all 8 (f p) (b p)) (omega arith)

-- of one byte, and of two
pub ones-one : (f : ℕ → ℕ) (p a : ℕ) → a ≡ ones_of 8 (f p) → a ≡ ones_at f p 1
unfolding ones_at
ones-one f p a x = omega arith

pub ones-two : (f : ℕ → ℕ) (p a b : ℕ) → a ≡ ones_of 8 (f p) → b ≡ ones_of 8 (f (p + 1)) → a + b ≡ ones_at f p 2
unfolding ones_at
ones-two f p a b x y = rw (← add-one p) (omega arith)

-- ---- the second number of segment s

module _ (W G size : ℕ) (wide : 4 ≤ W) (two : G ≡ W + W) (f : ℕ → ℕ) (bytes : (q : ℕ) → f q < 256) (s high : ℕ) (y : high ≡ word f (s * G + W) W) (n : ℕ) (k : n ≤ G) where
  -- n bits fit the number
  pub marks-lt : of_bits (marks_at W G size f s n) < 2 ^ n
  marks-lt = rw (length-marks W G size f s n) at (of_bits-lt (marks_at W G size f s n))

  pub marks-fit : of_bits (marks_at W G size f s n) < 256 ^ W
  marks-fit = omega (arith, marks-lt, pow_mono {i = n} {j = 8 * W} (omega arith), pow-bytes W)

  -- a written bit is one of the number's
  bit_high : (r : ℕ) → r < n → written_bit W G f (s * G + r) ≡ bit_of high r
  bit_high r h =
      rw (
        digits_div s {m = G} {r = r} (omega arith),
        digits_mod s {m = G} {r = r} (omega arith),
        ← add_assoc (s * G) W (r / 8),
        ← byte_of-word f bytes W (s * G + W) (r / 8) (omega arith),
        ← y,
      )
      (bit_byte high r)

  -- where the number has no bit past them the marks are its bits
  module _ (h : high / 2 ^ n ≡ 0) where
    pub marks-high : of_bits (marks_at W G size f s n) ≡ high
    unfolding marks_at
    marks-high =
        ap of_bits (tab-ext n 0 _ (λ r. eqb (bit_of high r) 1) (λ r i j. rw (bit_high r (omega arith))))
        ∙ bits-from n 0 high (rw zero-add (shifted-out high n h)) ∙ div-one high

    -- and they are as many as the ones of the i bytes that hold them
    pub marks-ones : (i : ℕ) → G ≤ 8 * i → i ≤ W → ones_at f (s * G + W) i ≡ ones (marks_at W G size f s n)
    marks-ones i u v =
        let l : high < 2 ^ G = omega (arith, shifted-out high n h, pow_mono k) in
        let e : word f (s * G + W) i ≡ high =
        word_of f i (s * G + W) high (λ j x. rw y (sym (byte_of-word f bytes W (s * G + W) j (omega arith))))
        (omega (arith, pow_mono {i = G} {j = 8 * i} u, pow-bytes i)) in
        sym (ones-word f bytes i (s * G + W)) ∙ rw e (ones-all G high l ∙ ap (ones_of G) (sym marks-high)
        ∙ ones_of-list G (marks_at W G size f s n) (rw (length-marks W G size f s n) k))
