-- Laws of a word as its bytes: masks of each byte, the count of odd bytes. Assumes nothing.
use mathlib.Core.Path.{◌≡◌, refl, sym, ap, ◌∙◌}
use Prim.Native.Nat.{ℕ, zero, suc, ◌+◌, ◌-◌, ◌*◌, ◌/◌, ◌%◌, ◌^◌, ◌≤◌, ◌<◌, suc-le-suc}
use native.Mathlib.Omega.{arith}
use native.Mathlib.Nat.{add-zero, zero-add, add-suc, suc-add, pow-suc, mul_comm, mul_assoc}
use lib.Bits.{bit_and, bit_or, or_mod, or_shr, and_block, and_mask, and_zero_l}
use lib.Pow.{mod-pow-add, ones_split, ones_lt, high}
use Rattle.number.specs.Little.{byte_of, word}
use Rattle.number.specs.Parts.{odd_bytes}
use Rattle.number.proofs.LittleLaws.{word_of, word_same}

-- each value is a byte
abbrev pub AllBytes : (ℕ → ℕ) → Type 0
AllBytes f = (q : ℕ) → f q < 256

-- a word after a word
pub word_split : (f : ℕ → ℕ) (q a b : ℕ) → word f q (a + b) ≡ word f q a + 256 ^ a * word f (q + a) b
unfolding word
word_split f q zero b = rw (zero-add b, add-zero q) (omega arith)
word_split f q (suc a) b =
    let e : 256 ^ suc a * word f (q + suc a) b ≡ 256 * (256 ^ a * word f (q + suc a) b) = rw (pow-suc 256 a, mul_comm (256 ^ a) 256, mul_assoc) in
    rw (suc-add a b, word_split f (suc q) a b, suc-add q a, ← add-suc q a) (omega arith)

-- byte i of a word whose w bytes are bytes
pub word_byte : (f : ℕ → ℕ) (w q i : ℕ) → ((j : ℕ) → j < w → f (q + j) < 256) → i < w → byte_of (word f q w) i ≡ f (q + i)
unfolding byte_of word
word_byte f zero q i b h = absurd (omega arith)
word_byte f (suc w) q zero b h = rw add-zero (omega (arith, rw (add-zero q) at (b 0 (omega arith))))
word_byte f (suc w) q (suc i) b h =
    let e : (f q + 256 * word f (suc q) w) / 256 ≡ word f (suc q) w = omega (arith, rw (add-zero q) at (b 0 (omega arith))) in
    rw (e, add-suc q i, ← suc-add q i) (word_byte f w (suc q) i (λ j k. rw (suc-add q j, ← add-suc q j) (b (suc j) (suc-le-suc k))) (omega arith))

pub byte_of-word : (f : ℕ → ℕ) → AllBytes f → (w q i : ℕ) → i < w → byte_of (word f q w) i ≡ f (q + i)
byte_of-word f b w q i h = word_byte f w q i (λ j k. b (q + j)) h

-- a number that fits is the word of its bytes
pub word_bytes : (w n : ℕ) → n < 256 ^ w → word (byte_of n) 0 w ≡ n
word_bytes w n h = word_of (byte_of n) w 0 n (λ i k. rw (zero-add i)) h

-- equal words have equal bytes
pub word-inj : (f g : ℕ → ℕ) → AllBytes f → AllBytes g → (w p q i : ℕ) → word f p w ≡ word g q w → i < w → f (p + i) ≡ g (q + i)
word-inj f g b c w p q i e h = sym (byte_of-word f b w p i h) ∙ ap (λ (x : ℕ). byte_of x i) e ∙ byte_of-word g c w q i h

-- a mask that is the same in each byte, and at least as long
pub word_and : (f : ℕ → ℕ) (c : ℕ) → AllBytes f → c < 256 → (w k q p : ℕ) → bit_and (word f q w) (word (λ i. c) p (w + k)) ≡ word (λ i. bit_and (f i) c) q w
unfolding word
word_and f c b h zero k q p = and_zero_l (word (λ i. c) p (0 + k))
word_and f c b h (suc w) k q p =
    let r = word (λ i. c) (suc p) (w + k) in
    let e = and_block 8 (word f (suc q) w) r (f q) c (b q) h in
    let x : f q + 256 * word f (suc q) w ≡ word f (suc q) w * 256 + f q = omega arith in
    let y : c + 256 * r ≡ r * 256 + c = omega arith in
    rw (suc-add w k, x, y, e, word_and f c b h w k (suc q) (suc p)) (omega arith)

-- an or takes each byte apart
pub byte_of-or : (a b i : ℕ) → byte_of (bit_or a b) i ≡ bit_or (byte_of a i) (byte_of b i)
unfolding byte_of
byte_of-or a b zero = or_mod a b 8
byte_of-or a b (suc i) = rw (or_shr a b 8) (byte_of-or (a / 256) (b / 256) i)

-- ---- the low bytes of a number

pub word_low : (w x : ℕ) → word (byte_of x) 0 w ≡ x % 2 ^ (8 * w)
unfolding word byte_of
word_low zero x = omega arith
word_low (suc w) x =
    let e : 8 * suc w ≡ 8 * w + 8 = omega arith in
    let s : word (byte_of x) 1 w ≡ word (byte_of (x / 256)) 0 w = word_same (byte_of x) (byte_of (x / 256)) 1 0 w (λ i h. rw (zero-add i, suc-add 0 i, zero-add i)) in
    rw (e, mod-pow-add x (8 * w) 8, s, word_low w (x / 256)) (omega arith)

-- a mask of n bytes, from all ones by a shift
pub and_low : (x n : ℕ) → n ≤ 8 → bit_and x (18446744073709551615 / 2 ^ (64 - 8 * n)) ≡ word (byte_of x) 0 n
and_low x n h =
    let j : ℕ = 8 * n in
    let k : ℕ = 64 - 8 * n in
    let e : 64 ≡ j + k = omega arith in
    let m : 18446744073709551615 / 2 ^ k ≡ 2 ^ j - 1 =
    ap (λ (y : ℕ). (2 ^ y - 1) / 2 ^ k) e ∙ ap (λ (y : ℕ). y / 2 ^ k) (ones_split j k) ∙ high (2 ^ j - 1) k (ones_lt k) in
    ap (bit_and x) m ∙ and_mask x j ∙ sym (word_low n x)

-- ---- the count of odd bytes

-- modulo 255 a word is the sum of its bytes
sum-mod : (f : ℕ → ℕ) (q w : ℕ) → word (λ i. bit_and (f i) 1) q w % 255 ≡ odd_bytes f q w % 255
unfolding word odd_bytes
sum-mod f q zero = refl
sum-mod f q (suc w) = let m : bit_and (f q) 1 ≡ f q % 2 = and_mask (f q) 1 in rw m (omega (arith, sum-mod f (suc q) w))

pub odds-le : (f : ℕ → ℕ) (q n : ℕ) → odd_bytes f q n ≤ n
unfolding odd_bytes
odds-le f q zero = omega arith
odds-le f q (suc n) = omega (arith, odds-le f (suc q) n)

pub sum-odds : (f : ℕ → ℕ) (q w : ℕ) → w ≤ 8 → word (λ i. bit_and (f i) 1) q w % 255 ≡ odd_bytes f q w
sum-odds f q w h = sum-mod f q w ∙ omega (arith, odds-le f q w)

pub odds-same : (f g : ℕ → ℕ) (a b n : ℕ) → ((i : ℕ) → i < n → f (a + i) ≡ g (b + i)) → odd_bytes f a n ≡ odd_bytes g b n
unfolding odd_bytes
odds-same f g a b zero h = refl
odds-same f g a b (suc n) h =
    let h0 : f a ≡ g b = rw (add-zero a, add-zero b) at (h 0 (omega arith)) in
    rw (h0, odds-same f g (suc a) (suc b) n (λ i k. rw (suc-add a i, suc-add b i, ← add-suc a i, ← add-suc b i) (h (suc i) (suc-le-suc k))))

-- places after places
pub odds-split : (f : ℕ → ℕ) (q a b : ℕ) → odd_bytes f q (a + b) ≡ odd_bytes f q a + odd_bytes f (q + a) b
unfolding odd_bytes
odds-split f q zero b = rw (zero-add b, add-zero q, zero-add (odd_bytes f q b))
odds-split f q (suc a) b = rw (suc-add a b, odds-split f (suc q) a b, suc-add q a, ← add-suc q a) (omega arith)

-- one place more
pub odds-more : (f : ℕ → ℕ) (q n : ℕ) → odd_bytes f q (suc n) ≡ odd_bytes f q n + f (q + n) % 2
unfolding odd_bytes
odds-more f q zero = rw (add-zero q) (omega arith)
odds-more f q (suc n) = rw (odds-more f (suc q) n, add-suc q n, suc-add q n) (omega arith)
