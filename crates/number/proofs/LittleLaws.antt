-- Laws of little-endian numbers, over the width. Assumes nothing.
use mathlib.Core.Path.{◌≡◌, refl, sym, ap, ◌∙◌}
use mathlib.Core.List.{List, [], ◌∷◌, ◌++◌}
use Prim.Native.Nat.{ℕ, zero, suc, ◌+◌, ◌-◌, ◌*◌, ◌/◌, ◌%◌, ◌^◌, ◌≤◌, ◌<◌, suc-le-suc}
use native.Mathlib.Omega.{arith}
use native.Mathlib.Nat.{add-zero, zero-add, add-suc, suc-add, mul_assoc, pow-suc, mul_comm, div-one, div-div-eq-div-mul, one-le-pow, sub-zero}
use lib.ListN.{length, set, take, drop}
use lib.Arith.{mod-mul}
use lib.Pow.{pow-add}
use lib.Seq.{drop-cons, take_all, ext_get_or}
use Rattle.number.specs.Little.{le, bytes_of, Bytes, byte_of, word}
use Rattle.number.specs.Parts.{at, tab, over}
use Rattle.number.proofs.PartLaws.{length_over, over-in, over-next, over-ext}

-- a number that fits w bytes comes back
pub le-bytes_of : (w n : ℕ) → n < 256 ^ w → le (bytes_of w n) ≡ n
unfolding le bytes_of
le-bytes_of zero n h = omega arith
le-bytes_of (suc w) n h = omega (arith, le-bytes_of w (n / 256) (omega arith))

-- bytes come back
pub bytes_of-le : (l : List ℕ) → Bytes l → bytes_of (length l) (le l) ≡ l
unfolding le bytes_of
bytes_of-le [] h = refl
bytes_of-le (x ∷ xs) (hx, hs) =
    let e : (x + 256 * le xs) % 256 ≡ x = omega arith in
    let f : (x + 256 * le xs) / 256 ≡ le xs = omega arith in
    rw (e, f, bytes_of-le xs hs)

-- bytes after bytes
pub le-append : (xs ys : List ℕ) → le (xs ++ ys) ≡ le xs + 256 ^ length xs * le ys
unfolding le
le-append [] ys = omega arith
le-append (x ∷ xs) ys = omega (arith, le-append xs ys, times (length xs) (le ys))
  where
    times : (n y : ℕ) → 256 ^ suc n * y ≡ 256 * (256 ^ n * y)
    times n y = rw (pow-suc 256 n, mul_comm (256 ^ n) 256, mul_assoc)

pub length-bytes_of : (w n : ℕ) → length (bytes_of w n) ≡ w
unfolding bytes_of
length-bytes_of zero n = refl
length-bytes_of (suc w) n = ap suc (length-bytes_of w (n / 256))

pub at-bytes_of : (w n i : ℕ) → i < w → at (bytes_of w n) i ≡ byte_of n i
unfolding bytes_of byte_of
at-bytes_of zero n i h = absurd (omega arith)
at-bytes_of (suc w) n zero h = refl
at-bytes_of (suc w) n (suc i) h = at-bytes_of w (n / 256) i (omega arith)

pub byte_of-lt : (n i : ℕ) → byte_of n i < 256
unfolding byte_of
byte_of-lt n zero = omega arith
byte_of-lt n (suc i) = byte_of-lt (n / 256) i

pub byte_of-zero : (i : ℕ) → byte_of 0 i ≡ 0
unfolding byte_of
byte_of-zero zero = refl
byte_of-zero (suc i) = byte_of-zero i

-- a table of bytes
pub bytes-tab : (f : ℕ → ℕ) → ((q : ℕ) → f q < 256) → (n i : ℕ) → Bytes (tab i n f)
unfolding tab
bytes-tab f h zero i = tt
bytes-tab f h (suc n) i = (h i, bytes-tab f h n (suc i))

-- byte j of a number, by a shift
pub byte_of-shift : (n j : ℕ) → n / 2 ^ (8 * j) % 256 ≡ byte_of n j
unfolding byte_of
byte_of-shift n zero = rw (div-one n)
byte_of-shift n (suc j) =
    let e : 8 * suc j ≡ 8 + 8 * j = omega arith in
    rw (e, pow-add 2 8 (8 * j), ← div-div-eq-div-mul) (byte_of-shift (n / 256) j)

-- one byte more
mod-next : (w n : ℕ) → n % 256 ^ suc w ≡ n / 256 % 256 ^ w * 256 + n % 256
mod-next w n = rw (pow-suc 256 w) (mod-mul n {m = 256 ^ w} {c = 256} (one-le-pow w 256 (omega arith)) (omega arith))

-- the w low bytes of a number, and those above them
byte_of-low : (w n i : ℕ) → i < w → byte_of (n % 256 ^ w) i ≡ byte_of n i
unfolding byte_of
byte_of-low zero n i h = absurd (omega arith)
byte_of-low (suc w) n zero h = omega (arith, mod-next w n)
byte_of-low (suc w) n (suc i) h =
    let e : n % 256 ^ suc w / 256 ≡ n / 256 % 256 ^ w = omega (arith, mod-next w n) in
    rw e (byte_of-low w (n / 256) i (omega arith))

byte_of-high : (w n i : ℕ) → byte_of (n / 256 ^ w) i ≡ byte_of n (w + i)
unfolding byte_of
byte_of-high zero n i = rw (zero-add i, div-one n)
byte_of-high (suc w) n i = rw (pow-suc 256 w, mul_comm (256 ^ w) 256, ← div-div-eq-div-mul, suc-add w i) (byte_of-high w (n / 256) i)

-- a number written in two parts, the m low bytes first
pub over-bytes : (a m n v : ℕ) (h : List ℕ)
    → over (a + m) n (λ q. byte_of (v / 256 ^ m) (q - (a + m))) (over a m (λ q. byte_of (v % 256 ^ m) (q - a)) h) ≡ over a (m + n) (λ q. byte_of v (q - a)) h
over-bytes a m n v h =
    ap (over (a + m) n (λ q. byte_of (v / 256 ^ m) (q - (a + m))))
    (over-ext a m (λ q. byte_of (v % 256 ^ m) (q - a)) (λ q. byte_of v (q - a)) h (λ q x y. byte_of-low m v (q - a) (omega arith)))
    ∙ over-next a m n (λ q. byte_of v (q - a)) (λ q. byte_of (v / 256 ^ m) (q - (a + m))) h
    (λ q x y. let e : m + (q - (a + m)) ≡ q - a = omega arith in byte_of-high m v (q - (a + m)) ∙ rw e)

-- a number written over all bytes
pub over-all : (w v : ℕ) (h : List ℕ) → length h ≡ w → over 0 w (λ q. byte_of v (q - 0)) h ≡ bytes_of w v
over-all w v h e =
    ext_get_or 0 (over 0 w (λ q. byte_of v (q - 0)) h) (bytes_of w v) (length_over 0 w (λ q. byte_of v (q - 0)) h ∙ e ∙ sym (length-bytes_of w v))
    (λ q y.
    let k : q < w = rw (length_over 0 w (λ q. byte_of v (q - 0)) h, e) at y in
    over-in 0 w (λ q. byte_of v (q - 0)) h q (rw e k) (omega arith) (omega arith) ∙ rw (sub-zero q, at-bytes_of w v q k))

-- the number at w places of a list
pub le-word : (l : List ℕ) (w p : ℕ) → p + w ≤ length l → le (take w (drop p l)) ≡ word (at l) p w
unfolding le word
le-word l zero p h = refl
le-word l (suc w) p h = rw (drop-cons l p 0 (omega arith)) (omega (arith, le-word l w (suc p) (omega arith)))

-- the bytes of a number make the number
pub word_of : (f : ℕ → ℕ) (w p n : ℕ) → ((i : ℕ) → i < w → f (p + i) ≡ byte_of n i) → n < 256 ^ w → word f p w ≡ n
unfolding word byte_of
word_of f zero p n h b = omega arith
word_of f (suc w) p n h b =
    let h0 : f (p + 0) ≡ n % 256 = h 0 (omega arith) in
    let e0 : f p ≡ n % 256 = rw (add-zero p) at h0 in
    let r : word f (suc p) w ≡ n / 256 =
    word_of f w (suc p) (n / 256) (λ i k. rw (suc-add p i, ← add-suc p i) (h (suc i) (suc-le-suc k))) (omega arith) in
    omega arith

-- the number depends on its w bytes alone
pub word_same : (f g : ℕ → ℕ) (a b w : ℕ) → ((i : ℕ) → i < w → f (a + i) ≡ g (b + i)) → word f a w ≡ word g b w
unfolding word
word_same f g a b zero h = refl
word_same f g a b (suc w) h =
    let h0 : f a ≡ g b = rw (add-zero a, add-zero b) at (h 0 (omega arith)) in
    rw (h0, word_same f g (suc a) (suc b) w (λ i k. rw (suc-add a i, suc-add b i, ← add-suc a i, ← add-suc b i) (h (suc i) (suc-le-suc k))))

-- bytes below 256 make a number below 256 to the w
pub word_lt : (f : ℕ → ℕ) (p w : ℕ) → ((q : ℕ) → f q < 256) → word f p w < 256 ^ w
unfolding word
word_lt f p zero h = omega arith
word_lt f p (suc w) h =
    let e : 256 ^ suc w ≡ 256 * 256 ^ w = omega arith in
    rw e (omega (arith, h p, word_lt f (suc p) w h))

-- four bytes, written out
pub le4 : (l : List ℕ) → length l ≡ 4 → le l ≡ at l 0 + 256 * (at l 1 + 256 * (at l 2 + 256 * at l 3))
unfolding le
le4 [] h = absurd (omega arith)
le4 (a ∷ []) h = absurd (omega arith)
le4 (a ∷ (b ∷ [])) h = absurd (omega arith)
le4 (a ∷ (b ∷ (c ∷ []))) h = absurd (omega arith)
le4 (a ∷ (b ∷ (c ∷ (d ∷ [])))) h = omega arith
le4 (a ∷ (b ∷ (c ∷ (d ∷ (e ∷ l))))) h = absurd (omega arith)

-- eight bytes, as one sum
pub le8 : (l : List ℕ) → length l ≡ 8
    → at l 0 + 256 * at l 1 + 65536 * at l 2 + 16777216 * at l 3 + 4294967296 * at l 4 + 1099511627776 * at l 5 + 281474976710656 * at l 6 + 72057594037927936 * at l 7 ≡ le l
unfolding word
le8 l h = let e : le l ≡ word (at l) 0 8 = rw (take_all 8 l (omega arith)) at (le-word l 8 0 (omega arith)) in omega arith

pub set4 : (l : List ℕ) (a b c d : ℕ) → length l ≡ 4 → set (set (set (set l 0 a) 1 b) 2 c) 3 d ≡ a ∷ (b ∷ (c ∷ (d ∷ [])))
set4 [] a b c d h = absurd (omega arith)
set4 (x ∷ []) a b c d h = absurd (omega arith)
set4 (x ∷ (y ∷ [])) a b c d h = absurd (omega arith)
set4 (x ∷ (y ∷ (z ∷ []))) a b c d h = absurd (omega arith)
set4 (x ∷ (y ∷ (z ∷ (w ∷ [])))) a b c d h = refl
set4 (x ∷ (y ∷ (z ∷ (w ∷ (v ∷ l))))) a b c d h = absurd (omega arith)
