-- Laws of bits: one, a run of them, a list, and their count. Assumes nothing.
use mathlib.Core.Path.{◌≡◌, refl, sym, ap, ◌∙◌}
use mathlib.Core.Bool.{Bool, true, false, not, ◌&&◌}
use mathlib.Core.List.{List, [], ◌∷◌}
use Prim.Native.Nat.{ℕ, zero, suc, ◌+◌, ◌-◌, ◌*◌, ◌/◌, ◌%◌, ◌^◌, ◌≤◌, ◌<◌, max}
use native.Mathlib.Omega.{arith}
use native.Mathlib.Nat.{mod-lt, zero-div, zero-mul, div-eq_of_lt, pow-suc, one-mul, div-one, div-div-eq-div-mul}
use native.Mathlib.Numerals.{add-one}
use lib.ListN.{length, get_or, set}
use lib.Dec.{eqb, lit<, lit≤}
use lib.Pow.{pow_pos, pow-lt, pow_mono, shr-shr, mod-pow-add, high_ones, shl_exact, shl_lt}
use lib.Arith.{bin_ind}
use lib.Bits.{bit_and, bit_or, bit_xor, or_add_and, xor_add_and, and_le_l, and_le_r, and_mask, and_high, or_shr, or_zero_r, or_step, or_shifted, or_shifted_r}
use lib.Count as count
use borrow.Author.Tests.{eq-eqb, eqb-true}
use Rattle.number.proofs.TestLaws.{and-true, same_test, same_digits}
use Rattle.number.specs.Bits.{bit, bit_of, with_bit, with_bits, bits_set, of_bits, ones, ones_of}

pub bit-lt : (b : Bool) → bit b < 2
bit-lt true = omega arith
bit-lt false = omega arith

pub bit-back : (x : Bool) → eqb (bit x) 1 ≡ x
bit-back true = refl
bit-back false = refl

pub bit_test : (x : ℕ) → x < 2 → bit (eqb x 1) ≡ x
bit_test zero h = refl
bit_test (suc zero) h = refl
bit_test (suc (suc x)) h = absurd (omega arith)

pub bit_of-lt : (b j : ℕ) → bit_of b j < 2
unfolding bit_of
bit_of-lt b j = mod-lt (b / 2 ^ j) (lit< tt)

-- ---- a mask of one bit

and-bit : (b j : ℕ) → bit_and b (2 ^ j) ≡ bit_of b j * 2 ^ j
unfolding bit_of
and-bit b j = ap (bit_and b) (sym (high_ones 1 j ∙ one-mul (2 ^ j))) ∙ and_high b 1 j

twice-test : (x : ℕ) → x < 2 → not (eqb (x * 2) 0) ≡ eqb x 1
twice-test zero h = refl
twice-test (suc zero) h = refl
twice-test (suc (suc x)) h = absurd (omega arith)

-- bit 1 is set exactly if the mask leaves something
pub mask-two : (b : ℕ) → not (eqb (bit_and b 2) 0) ≡ eqb (b / 2 % 2) 1
unfolding bit_of
mask-two b = ap (λ (x : ℕ). not (eqb x 0)) (and-bit b 1) ∙ twice-test (b / 2 % 2) (mod-lt (b / 2) (lit< tt))

-- a code above two bits
pub pack-or : (k w : ℕ) → k < 64 → w < 4 → bit_or (k * 4 % 256) w ≡ 4 * k + w
pack-or k w h g = ap (λ (x : ℕ). bit_or x w) (shl_exact {a = k} 6 2 8 h (lit≤ tt)) ∙ or_shifted k 2 w g ∙ omega arith

-- ---- a run of bits

or_assoc : (a b c : ℕ) → bit_or (bit_or a b) c ≡ bit_or a (bit_or b c)
or_assoc = bin_ind (λ (a : ℕ). (b c : ℕ) → bit_or (bit_or a b) c ≡ bit_or a (bit_or b c)) (λ b c. refl) step
  where
    odd : (a b : ℕ) → bit_or a b % 2 ≡ max (a % 2) (b % 2)
    odd a b = omega (arith, or_step a b)

    step : (a : ℕ) → ((b c : ℕ) → bit_or (bit_or (a / 2) b) c ≡ bit_or (a / 2) (bit_or b c)) → (b c : ℕ) → bit_or (bit_or a b) c ≡ bit_or a (bit_or b c)
    step a ih b c =
        or_step (bit_or a b) c
        ∙ rw (or_shr a b 1, odd a b, ih (b / 2) (c / 2), or_step a (bit_or b c), or_shr b c 1, odd b c) (omega arith)

-- a shift of 1 loses nothing
pub one_shifted : (n : ℕ) → n < 32 → 1 * 2 ^ n % 2 ^ 32 ≡ 2 ^ n
one_shifted n h = shl_exact {a = 1} 1 n 32 (lit< tt) (omega arith) ∙ one-mul (2 ^ n)

-- n low bits, shifted to bit j, stay in a byte
module _ (j n m : ℕ) (h : j + n ≤ 8) (e : m + 1 ≡ 2 ^ n) where
  pub run-shifted : m * 2 ^ j % 2 ^ 32 ≡ m * 2 ^ j
  run-shifted = shl_exact {a = m} n j 32 (omega arith) (omega arith)

  pub run-lt : m * 2 ^ j < 256
  run-lt = omega (arith, shl_lt {a = m} n j (omega arith), pow_mono {i = n + j} {j = 8} (omega arith))

-- one or sets them all
pub with-run : (b j n m : ℕ) → m + 1 ≡ 2 ^ n → bit_or b (m * 2 ^ j) ≡ with_bits b j n
unfolding with_bits with_bit
with-run b j zero m e = let z : m ≡ 0 = omega arith in rw (z, zero-mul (2 ^ j), or_zero_r b)
with-run b j (suc n) m e =
    let o : m ≡ m / 2 * 2 + 1 = omega (arith, pow-suc 2 n) in
    let q : m * 2 ^ j ≡ m / 2 * 2 ^ suc j + 2 ^ j = ap (λ (x : ℕ). x * 2 ^ j) o ∙ rw (pow-suc 2 j) (omega arith) in
    ap (bit_or b) (q ∙ sym (or_shifted_r (m / 2) (suc j) (2 ^ j) (pow-lt {i = j} {j = suc j} (omega arith)))) ∙ sym (or_assoc b (2 ^ j) (m / 2 * 2 ^ suc j))
    ∙ with-run (bit_or b (2 ^ j)) (suc j) n (m / 2) (omega (arith, pow-suc 2 n))

run-set : (b j n : ℕ) → eqb (b / 2 ^ j % 2 ^ n) (2 ^ n - 1) ≡ bits_set b j n
unfolding bits_set bit_of
run-set b j zero = let z : b / 2 ^ j % 2 ^ 0 ≡ 0 = omega arith in rw z
run-set b j (suc n) =
    let d : b / 2 ^ j / 2 ≡ b / 2 ^ suc j = shr-shr b j 1 ∙ ap (λ (x : ℕ). b / 2 ^ x) (add-one j) in
    let m : b / 2 ^ j % 2 ^ suc n ≡ b / 2 ^ j % 2 + 2 * (b / 2 ^ suc j % 2 ^ n) =
    ap (λ (x : ℕ). b / 2 ^ j % 2 ^ x) (sym (add-one n)) ∙ mod-pow-add (b / 2 ^ j) n 1 ∙ rw d (omega arith) in
    let p : 2 ^ suc n - 1 ≡ 1 + 2 * (2 ^ n - 1) = omega (arith, pow-suc 2 n, pow_pos n) in
    rw (m, p, same_digits 2 (b / 2 ^ j % 2) 1 (b / 2 ^ suc j % 2 ^ n) (2 ^ n - 1) (mod-lt (b / 2 ^ j) (lit< tt)) (lit< tt), run-set b (suc j) n)

-- one mask tests them all
pub mask-run : (b j n m : ℕ) → m + 1 ≡ 2 ^ n → eqb (bit_and (b / 2 ^ j) m) m ≡ bits_set b j n
mask-run b j n m e =
    let z : m ≡ 2 ^ n - 1 = omega arith in
    rw (z, and_mask (b / 2 ^ j) n) (run-set b j n)

-- ---- the number of a list of bits

pub bit-of : (l : List Bool) (i : ℕ) → bit_of (of_bits l) i ≡ bit (get_or l i false)
unfolding of_bits bit_of
bit-of [] i = rw (zero-div (2 ^ i))
bit-of (x ∷ xs) zero = omega (arith, bit-lt x)
bit-of (x ∷ xs) (suc i) =
    let e : (bit x + 2 * of_bits xs) / 2 ≡ of_bits xs = omega (arith, bit-lt x) in
    let p : 2 ^ suc i ≡ 2 * 2 ^ i = omega arith in
    rw (p, ← div-div-eq-div-mul, e) (bit-of xs i)

pub of_bits-lt : (l : List Bool) → of_bits l < 2 ^ length l
unfolding of_bits
of_bits-lt [] = omega arith
of_bits-lt (x ∷ xs) =
    let p : 2 ^ suc (length xs) ≡ 2 * 2 ^ length xs = omega arith in
    rw p (omega (arith, bit-lt x, of_bits-lt xs))

pub of_bits-set : (l : List Bool) (i : ℕ) → i < length l → of_bits (set l i true) ≡ with_bit (of_bits l) i
unfolding of_bits with_bit
of_bits-set [] i h = absurd (omega arith)
of_bits-set (x ∷ xs) zero h =
    let a : (bit x + 2 * of_bits xs) / 2 ≡ of_bits xs = omega (arith, bit-lt x) in
    let b : (bit x + 2 * of_bits xs) % 2 ≡ bit x = omega (arith, bit-lt x) in
    rw (or_step (bit x + 2 * of_bits xs) 1, a, b, or_zero_r (of_bits xs)) (omega (arith, bit-lt x))
of_bits-set (x ∷ xs) (suc i) h =
    let a : (bit x + 2 * of_bits xs) / 2 ≡ of_bits xs = omega (arith, bit-lt x) in
    let b : (bit x + 2 * of_bits xs) % 2 ≡ bit x = omega (arith, bit-lt x) in
    let p : 2 ^ suc i ≡ 2 * 2 ^ i = omega arith in
    let c : 2 * 2 ^ i / 2 ≡ 2 ^ i = omega arith in
    let d : 2 * 2 ^ i % 2 ≡ 0 = omega arith in
    rw (or_step (bit x + 2 * of_bits xs) (2 ^ suc i), a, b, p, c, d, of_bits-set xs i (omega arith)) (omega (arith, bit-lt x))

-- ---- the count of ones

ones-part : (n b : ℕ) → ones_of n b + count.ones (b / 2 ^ n) ≡ count.ones b
unfolding ones_of bit_of
ones-part zero b = rw (div-one b) (omega arith)
ones-part (suc n) b = omega (arith, ones-part n b, count.ones_step (b / 2 ^ n), ap count.ones (shr-shr b n 1 ∙ ap (λ (x : ℕ). b / 2 ^ x) (add-one n)))

pub ones-all : (n b : ℕ) → b < 2 ^ n → count.ones b ≡ ones_of n b
unfolding count.ones
ones-all n b h = let z : count.ones (b / 2 ^ n) ≡ 0 = ap count.ones (div-eq_of_lt h) in omega (arith, ones-part n b)

ones-list : (l : List Bool) → count.ones (of_bits l) ≡ ones l
unfolding of_bits ones count.ones
ones-list [] = refl
ones-list (x ∷ xs) =
    let a : (bit x + 2 * of_bits xs) / 2 ≡ of_bits xs = omega (arith, bit-lt x) in
    let b : (bit x + 2 * of_bits xs) % 2 ≡ bit x = omega (arith, bit-lt x) in
    count.ones_step (bit x + 2 * of_bits xs) ∙ rw (a, b, ones-list xs)

-- the ones of a number are those of its bits
pub ones_of-list : (n : ℕ) (l : List Bool) → length l ≤ n → ones_of n (of_bits l) ≡ ones l
ones_of-list n l h = sym (ones-all n (of_bits l) (omega (arith, of_bits-lt l, pow_mono h))) ∙ ones-list l

-- an or is zero where both are
pub or-none : (a b : ℕ) → eqb (bit_or a b) 0 ≡ (eqb a 0 && eqb b 0)
or-none a b =
    same_test (eqb (bit_or a b) 0) (eqb a 0 && eqb b 0)
    (λ e. let z : bit_or a b ≡ 0 = eqb-true (bit_or a b) 0 e in
    rw (eq-eqb a 0 (omega (arith, or_add_and a b, and_le_r a b)), eq-eqb b 0 (omega (arith, or_add_and a b, and_le_l a b))))
    (λ e. let t = and-true (eqb a 0) (eqb b 0) e in
    eq-eqb (bit_or a b) 0 (omega (arith, or_add_and a b, eqb-true a 0 t.0, eqb-true b 0 t.1)))

pub or-zero : (a b : ℕ) → bit_or a b ≡ 0 → (a ≡ 0) × (b ≡ 0)
or-zero a b e = (omega (arith, or_add_and a b, and_le_r a b), omega (arith, or_add_and a b, and_le_l a b))

-- an exclusive or is zero where both are equal
pub xor-zero : (a b : ℕ) → bit_xor a b ≡ 0 → a ≡ b
xor-zero a b e = omega (arith, xor_add_and a b, and_le_l a b, and_le_r a b)
