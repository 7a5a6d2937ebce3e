-- Whole blocks of four and of eight bytes: the constants that the code compares with, and what is read where its tests pass. Assumes nothing.
use mathlib.Core.Path.{◌≡◌, refl, sym, ap, ◌∙◌}
use mathlib.Core.Bool.{true, false, ◌&&◌, ◌||◌}
use mathlib.Core.Logic.{◌≢◌}
use mathlib.Core.List.{List}
use Prim.Native.Nat.{ℕ, ◌+◌, ◌*◌, ◌/◌, ◌%◌, ◌≤◌, ◌<◌}
use native.Mathlib.Omega.{arith}
use native.Mathlib.Nat.{add-zero, zero-add, sub-zero, mod-lt}
use lib.Bits.{bit_or}
use lib.Dec.{leb, eqb, lit<}
use borrow.Author.Tests.{ne_eqb, le-leb, le-ltb, eqb-true, leb-true}
use Rattle.number.specs.Little.{word}
use Rattle.number.specs.Parts.{at}
use Rattle.number.proofs.LittleLaws.{word_same}
use Rattle.number.proofs.TestLaws.{Test, is_true, is_false, test, and-true, or_case, false_of, not-both}
use Rattle.number.proofs.WordLaws.{AllBytes, word-inj}
use Rattle.plain.specs.Ops.{range_marked}
use Rattle.plain.specs.Reading.{block}
use Rattle.plain.specs.ShadowCalls.{in_one}
use Rattle.stack_layout.specs.Code.{short_code, code_of, primary_of}
use Rattle.stack_layout.specs.Ops.{with_written, stack_ops}
use Rattle.stack_layout.specs.Reading.{fitted, code_reading, stack_reading}
use Rattle.stack_layout.proofs.TableLaws.{Encoded, encoded}
use Rattle.stack_layout.proofs.CodeLaws.{code_lt, Apart, primary-apart}
use Rattle.stack_laws.specs.Whole.{whole_written, whole_writable, whole_from, whole_length}
use Rattle.stack_laws.proofs.MarkLaws.{written-bytes, word-written, marked-each}
use Rattle.stack_laws.proofs.WordLaws.{primary-four, primary-eight}

-- ---- the constants of the code

-- the written bytes of a block of four as one number, and of eight
pub word-4 : word (λ i. primary_of 4 i 1) 0 4 ≡ 690299165
word-4 = primary-four 1

pub word-8 : word (λ i. primary_of 8 i 1) 0 8 ≡ 10488190313711892853
word-8 = primary-eight 1

-- their written bits
pub bits-4 : word (λ i. 1) 0 4 ≡ 16843009
unfolding word
bits-4 = refl

pub bits-8 : word (λ i. 1) 0 8 ≡ 72340172838076673
unfolding word
bits-8 = refl

-- the codes of their first bytes
pub code-4 : code_of 4 0 ≡ 7
unfolding code_of short_code
code-4 = refl

pub code-8 : code_of 8 0 ≡ 29
unfolding code_of short_code
code-8 = refl

-- ---- the tests of the code

-- where n is k and fits, k fits
pub whole-fits : (size p n k : ℕ) → (eqb n k && leb (p + k) size) ≡ true → p + k ≤ size
whole-fits size p n k e = leb-true (p + k) size (and-true (eqb n k) (leb (p + k) size) e).1

module _ (size : ℕ) (f : ℕ → ℕ) (p n : ℕ) where
  -- n is one of the two lengths, and fits: the word v is compared with the block's
  pub whole_of : (k v w : ℕ) → (eqb k 4 || eqb k 8) ≡ true → (eqb n k && leb (p + k) size) ≡ true → v ≡ word f p k → w ≡ word (λ i. primary_of k i 1) 0 k
      → eqb v w ≡ whole_written size f p n
  unfolding whole_written
  whole_of k v w o e a b =
      let t = and-true (eqb n k) (leb (p + k) size) e in
      let q : n ≡ k = eqb-true n k t.0 in
      rw (q, o, t.1, a, b)

  -- it is neither, or does not fit
  pub whole-none : (eqb n 4 && leb (p + 4) size) ≡ false → (eqb n 8 && leb (p + 8) size) ≡ false → whole_written size f p n ≡ false
  unfolding whole_written
  whole-none a b = false_of _ no
    where
      no : whole_written size f p n ≡ true → ⊥
      no e =
          let t = and-true ((eqb n 4 || eqb n 8) && leb (p + n) size) (eqb (word f p n) (word (λ i. primary_of n i 1) 0 n)) e in
          let u = and-true (eqb n 4 || eqb n 8) (leb (p + n) size) t.0 in
          or_case (eqb n 4) (eqb n 8) u.0
          (λ x. not-both (eqb n 4 && leb (p + 4) size) (rw (x, ← (eqb-true n 4 x)) u.1) a)
          (λ x. not-both (eqb n 8 && leb (p + 8) size) (rw (x, ← (eqb-true n 8 x)) u.1) b)

-- the same with the written bits set first, by a mask m
module _ (size : ℕ) (f : ℕ → ℕ) (bytes : AllBytes f) (p n : ℕ) where
  pub plain_of : (k v m w : ℕ) → (eqb k 4 || eqb k 8) ≡ true → (eqb n k && leb (p + k) size) ≡ true → v ≡ word f p k → m ≡ word (λ i. 1) 0 k
      → w ≡ word (λ i. primary_of k i 1) 0 k → eqb (bit_or v m) w ≡ whole_writable size f p n
  unfolding whole_writable
  plain_of k v m w o e a c b = whole_of size (λ q. with_written (f q)) p n k (bit_or v m) w o e (rw (a, c) (word-written f bytes k p 0)) b

  pub plain-none : (eqb n 4 && leb (p + 4) size) ≡ false → (eqb n 8 && leb (p + 8) size) ≡ false → whole_writable size f p n ≡ false
  unfolding whole_writable
  plain-none = whole-none size (λ q. with_written (f q)) p n

-- ---- what is read

-- the first byte of a short block that fits: the secondary has no part in it
first_read : (size : ℕ) (f se : ℕ → ℕ) (p L m : ℕ) → 1 ≤ L → L ≤ 8 → p + L ≤ size → m < 4 → f p ≡ primary_of L 0 m
    → stack_reading size f se p ≡ block p L 0 (f p % 2) (eqb (f p / 2 % 2) 1)
unfolding stack_reading code_reading code_of fitted
first_read size f se p L m s h g k e =
    let E : Encoded L 0 (short_code L 0) = encoded L 0 h s in
    let A : Apart (primary_of L 0 m) (code_of L 0) m = primary-apart L 0 m k in
    rw (
      e,
      A.code,
      A.low,
      A.mark,
      A.bit,
      le-leb L 8 h,
      ne_eqb (short_code L 0) 0 (λ z. omega (arith, E.some)),
      le-leb (short_code L 0) 36 E.most,
      E.length,
      E.offset,
      le-ltb p 0 (omega arith),
      le-ltb (size + 0) (p + L) (omega arith),
      sub-zero p,
    )

-- by the code of the first byte alone
pub length-read : (size : ℕ) (f se : ℕ → ℕ) (p n : ℕ) → n ≡ whole_length size f p → n ≢ 0
    → stack_reading size f se p ≡ block p n 0 (f p % 2) (eqb (f p / 2 % 2) 1)
unfolding whole_length whole_from primary_of
length-read size f se p n e z = go (test (whole_from size f p 4)) (test (whole_from size f p 8))
  where
    of : (k : ℕ) → 1 ≤ k → k ≤ 8 → whole_from size f p k ≡ true → n ≡ k → stack_reading size f se p ≡ block p n 0 (f p % 2) (eqb (f p / 2 % 2) 1)
    of k a b t q =
        let u = and-true (eqb (f p / 4) (code_of k 0)) (leb (p + k) size) t in
        let c : f p / 4 ≡ code_of k 0 = eqb-true (f p / 4) (code_of k 0) u.0 in
        rw q (first_read size f se p k (f p % 4) a b (leb-true (p + k) size u.1) (omega arith) (omega arith))

    go : Test (whole_from size f p 4) → Test (whole_from size f p 8) → stack_reading size f se p ≡ block p n 0 (f p % 2) (eqb (f p / 2 % 2) 1)
    go (is_true t) u = of 4 (omega arith) (omega arith) t (e ∙ rw t)
    go (is_false t) (is_true u) = of 8 (omega arith) (omega arith) u (e ∙ rw (t, u))
    go (is_false t) (is_false u) = absurd (z (e ∙ rw (t, u)))

-- all n bytes are those of a written block
record Bytes (size : ℕ) (f : ℕ → ℕ) (p n : ℕ) : Type 0 where
  some : 1 ≤ n
  most : n ≤ 8
  fits : p + n ≤ size
  byte : (i : ℕ) → i < n → f (p + i) ≡ primary_of n i 1

-- a word tells its bytes
same_bytes : (f : ℕ → ℕ) → AllBytes f → (p n i : ℕ) → word f p n ≡ word (λ i. primary_of n i 1) 0 n → i < n → f (p + i) ≡ primary_of n i 1
unfolding primary_of
same_bytes f b p n i e h =
    word-inj f g b (λ q. mod-lt (primary_of n q 1) (lit< tt)) n p 0 i
    (e ∙ word_same (λ i. primary_of n i 1) g 0 0 n (λ j k. rw (zero-add j) (own j k))) h
    ∙ rw (zero-add i) (sym (own i h))
  where
    g : ℕ → ℕ
    g q = primary_of n q 1 % 256

    own : (j : ℕ) → j < n → primary_of n j 1 ≡ g j
    own j k = omega (arith, code_lt n j k)

whole-bytes : (size : ℕ) (f : ℕ → ℕ) → AllBytes f → (p n : ℕ) → whole_written size f p n ≡ true → Bytes size f p n
unfolding whole_written
whole-bytes size f b p n e =
    let t = and-true ((eqb n 4 || eqb n 8) && leb (p + n) size) (eqb (word f p n) (word (λ i. primary_of n i 1) 0 n)) e in
    let u = and-true (eqb n 4 || eqb n 8) (leb (p + n) size) t.0 in
    let k = lengths u.0 in
    record {
      some = k.0;
      most = k.1;
      fits = leb-true (p + n) size u.1;
      byte = λ i h. same_bytes f b p n i (eqb-true (word f p n) (word (λ i. primary_of n i 1) 0 n) t.1) h;
    }
  where
    lengths : (eqb n 4 || eqb n 8) ≡ true → (1 ≤ n) × (n ≤ 8)
    lengths w = go (test (eqb n 4)) (test (eqb n 8))
      where
        go : Test (eqb n 4) → Test (eqb n 8) → (1 ≤ n) × (n ≤ 8)
        go (is_true x) y = let q = eqb-true n 4 x in (omega arith, omega arith)
        go (is_false x) (is_true y) = let q = eqb-true n 8 y in (omega arith, omega arith)
        go (is_false x) (is_false y) = absurd (not-both (eqb n 4 || eqb n 8) w (rw (x, y)))

-- a whole block that is no literal, written or not
pub plain-read : (size : ℕ) (f se : ℕ → ℕ) → AllBytes f → (p n : ℕ) → whole_writable size f p n ≡ true → stack_reading size f se p ≡ block p n 0 (f p % 2) false
unfolding whole_writable primary_of
plain-read size f se b p n e =
    let W = whole-bytes size (λ q. with_written (f q)) (written-bytes f b) p n e in
    let x : with_written (f p) ≡ primary_of n 0 1 = rw (add-zero p) at (W.byte 0 (omega (arith, W.some))) in
    let h : f p / 2 ≡ 2 * code_of n 0 = omega arith in
    let l : 2 * code_of n 0 % 2 ≡ 0 = omega arith in
    rw (h, l) at (first_read size f se p n (f p % 2) W.some W.most W.fits (omega arith) (omega arith))

-- and one that is all written
pub written_read : (size : ℕ) (f se : ℕ → ℕ) → AllBytes f → (p n : ℕ) → whole_written size f p n ≡ true → stack_reading size f se p ≡ block p n 0 1 false
written_read size f se b p n e =
    let W = whole-bytes size f b p n e in
    let x : f p ≡ primary_of n 0 1 = rw (add-zero p) at (W.byte 0 (omega (arith, W.some))) in
    let A : Apart (primary_of n 0 1) (code_of n 0) 1 = primary-apart n 0 1 (lit< tt) in
    rw (x, A.bit, A.mark) at (first_read size f se p n 1 W.some W.most W.fits (lit< tt) x)

pub written-marked : (P S : List ℕ) → AllBytes (at P) → (size p n : ℕ) → whole_written size (at P) p n ≡ true → range_marked (stack_ops size) (P, S) p n ≡ true
written-marked P S b size p n e =
    marked-each size P S p n
    (λ i h. ap (λ (x : ℕ). x % 2) ((whole-bytes size (at P) b p n e).byte i h) ∙ (primary-apart n i 1 (lit< tt)).bit)

pub written_one : (size : ℕ) (f se : ℕ → ℕ) → AllBytes f → (p n : ℕ) → whole_written size f p n ≡ true → in_one n (stack_reading size f se p) ≡ true
written_one size f se b p n e = ap (in_one n) (written_read size f se b p n e) ∙ rw (zero-add n) (le-leb n n (omega arith))
