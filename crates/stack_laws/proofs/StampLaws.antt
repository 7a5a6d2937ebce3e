-- What a block makes of its bytes as it begins, piece by piece. Assumes nothing.
use mathlib.Core.Path.{◌≡◌, sym, ◌∙◌}
use mathlib.Core.Logic.{◌⊎◌, inl, inr}
use mathlib.Core.Bool.{true, false}
use mathlib.Core.List.{List, [], ◌∷◌}
use Prim.Native.Nat.{ℕ, ◌+◌, ◌-◌, ◌*◌, ◌/◌, ◌%◌, ◌≤◌, ◌<◌, min}
use native.Mathlib.Omega.{arith}
use native.Mathlib.Nat.{add-sub_cancel_left, zero-add}
use lib.ListN.{length-replicate, get_or-replicate}
use borrow.Author.Tests.{lt-ltb, le-ltb, le-leb, lt-leb}
use Rattle.number.specs.Little.{byte_of}
use Rattle.number.specs.Parts.{at, zeros, over}
use Rattle.number.proofs.TestLaws.{and-true, in-true}
use Rattle.number.proofs.PartLaws.{zeros-at, over_none, over-ext, over-next, over-tail}
use Rattle.types.specs.declared.Beginning.{Beginning}
use Rattle.plain.specs.Block.{starts_written, starts_literal, begun}
use Rattle.plain.specs.Layer.{layer}
use Rattle.stack_layout.specs.Code.{short_code, piece_of, code_of, piece_byte, low_bits, primary_of, secondary_of}
use Rattle.stack_layout.specs.Image.{primary_own, secondary_own, primary_byte, secondary_byte}
use Rattle.stack_layout.specs.Ops.{StackShadows, stack_vacant, stack_stamp}

pub vacant-secondary : (P S : List ℕ) (b l : ℕ) → stack_vacant (P, S) b l ≡ true → zeros (at S) b l ≡ true
unfolding stack_vacant
vacant-secondary P S b l e = (and-true (zeros (at P) b l) (zeros (at S) b l) e).1

-- what a block makes of the shadows as it begins, byte by byte
pub stamped : (how : Beginning) (P S Q T : List ℕ) (b l m : ℕ) → m ≡ low_bits (starts_literal how) (starts_written how) → Q ≡ over b l (λ q. primary_of l (q - b) m) P → T ≡ over b l (λ q. secondary_of l (q - b)) S
    → ◌≡◌ {A = StackShadows} (Q, T) (stack_stamp (P, S) (begun how b l))
unfolding stack_stamp layer primary_own secondary_own
stamped how P S Q T b l m e u v =
    rw (u, v, length-replicate l (starts_written how), over-ext b l (primary_byte (begun how b l ∷ [])) (λ q. primary_of l (q - b) m) P prim, over-ext b l (secondary_byte (begun how b l ∷ [])) (λ q. secondary_of l (q - b)) S sec)
  where
    prim : (q : ℕ) → b ≤ q → q < b + l → primary_byte (begun how b l ∷ []) q ≡ primary_of l (q - b) m
    prim q x y = rw (length-replicate l (starts_written how), in-true b (b + l) q x y, get_or-replicate l (q - b) (starts_written how) false (omega arith), e)

    sec : (q : ℕ) → b ≤ q → q < b + l → secondary_byte (begun how b l ∷ []) q ≡ secondary_of l (q - b)
    sec q x y = rw (length-replicate l (starts_written how), in-true b (b + l) q x y)

-- the primary bytes of a short block climb from its first code
pub short-primary : (b L n m : ℕ) → L ≤ 8 → n ≡ L * (L - 1) / 2 → (P Q : List ℕ) → Q ≡ over b L (λ q. 4 * (n + 1) + m + 4 * (q - b)) P
    → Q ≡ over b L (λ q. primary_of L (q - b) m) P
unfolding primary_of code_of short_code
short-primary b L n m h k P Q e = e ∙ over-ext b L (λ q. 4 * (n + 1) + m + 4 * (q - b)) (λ q. primary_of L (q - b) m) P (λ q x y. rw (le-leb L 8 h, ← k) (omega arith))

-- a byte of a place that is zero
was-zero : (S : List ℕ) (b n q : ℕ) → zeros (at S) b n ≡ true → b ≤ q → q < b + n → at S q ≡ 0
was-zero S b n q z x y = let e : b + (q - b) ≡ q = omega arith in rw e at (zeros-at (at S) b n (q - b) z (omega arith))

-- a short block's secondary bytes are zero as they were
pub short-secondary : (S : List ℕ) (b L : ℕ) → L ≤ 8 → zeros (at S) b L ≡ true → S ≡ over b L (λ q. secondary_of L (q - b)) S
unfolding secondary_of
short-secondary S b L h z =
    sym (over_none b (λ q. secondary_of L (q - b)) S)
    ∙ rw zero-add at (over-tail b 0 L (λ q. secondary_of L (q - b)) S (λ q k x y. was-zero S b L q z (omega arith) (omega arith) ∙ rw (le-leb L 8 h)))

-- byte j of the piece at offset o
module _ (L o j : ℕ) (long : 9 ≤ L) (eights : o % 8 ≡ 0) (whole : o + 8 ≤ L) (last : (j < 8) ⊎ (L < o + 16)) (within : o + j < L) where
  piece-at : piece_of L (o + j) ≡ o
  unfolding piece_of
  piece-at = go last
    where
      go : (j < 8) ⊎ (L < o + 16) → 8 * min ((o + j) / 8) (L / 8 - 1) ≡ o
      go (inl h) = omega arith
      go (inr h) = omega arith

  pub piece-primary : (m : ℕ) → primary_of L (o + j) m ≡ 192 + m + 4 * j
  unfolding primary_of code_of
  piece-primary m = rw (lt-leb L 8 long, piece-at, add-sub_cancel_left o j) (omega arith)

  pub piece-secondary : secondary_of L (o + j) ≡ piece_byte L o j
  unfolding secondary_of
  piece-secondary = rw (lt-leb L 8 long, piece-at, add-sub_cancel_left o j)

-- the two numbers of a piece make its first eight secondary bytes
two-numbers : (S : List ℕ) (q L o : ℕ) → over (q + 4) 4 (λ x. byte_of o (x - (q + 4))) (over q 4 (λ x. byte_of L (x - q)) S) ≡ over q 8 (λ x. piece_byte L o (x - q)) S
unfolding piece_byte
two-numbers S q L o =
    rw (over-ext q 4 (λ x. byte_of L (x - q)) (λ x. piece_byte L o (x - q)) S (λ x u v. rw (lt-ltb (x - q) 4 (omega arith))))
    (over-next q 4 4 (λ x. piece_byte L o (x - q)) (λ x. byte_of o (x - (q + 4))) S
    (λ x u v. let e : x - q - 4 ≡ x - (q + 4) = omega arith in rw (le-ltb (x - q) 4 (omega arith), lt-ltb (x - q) 8 (omega arith), e)))

-- a piece of n bytes right after the pieces before it
module _ (b L o n : ℕ) (long : 9 ≤ L) (eights : o % 8 ≡ 0) (whole : o + 8 ≤ L) (last : (n ≡ 8) ⊎ (L < o + 16)) (within : o + n ≤ L) where
  near : (j : ℕ) → j < n → (n ≡ 8) ⊎ (L < o + 16) → (j < 8) ⊎ (L < o + 16)
  near j h (inl e) = inl (omega arith)
  near j h (inr e) = inr e

  pub next-primary : (m : ℕ) (P Q R : List ℕ) → Q ≡ over b o (λ q. primary_of L (q - b) m) P → R ≡ over (b + o) n (λ q. 192 + m + 4 * (q - (b + o))) Q
      → R ≡ over b (o + n) (λ q. primary_of L (q - b) m) P
  next-primary m P Q R before after =
      after
      ∙ rw before
      (over-next b o n (λ q. primary_of L (q - b) m) (λ q. 192 + m + 4 * (q - (b + o))) P
      (λ q x y. let e : o + (q - (b + o)) ≡ q - b = omega arith in
      sym (rw e at (piece-primary L o (q - (b + o)) long eights whole (near (q - (b + o)) (omega arith) last) (omega arith) m))))

-- the two numbers of a piece right after those of the pieces before it
module _ (b L o : ℕ) (long : 9 ≤ L) (eights : o % 8 ≡ 0) (whole : o + 8 ≤ L) where
  number-bytes : (q : ℕ) → b + o ≤ q → q < b + o + 8 → piece_byte L o (q - (b + o)) ≡ secondary_of L (q - b)
  number-bytes q x y =
      let e : o + (q - (b + o)) ≡ q - b = omega arith in
      sym (rw e at (piece-secondary L o (q - (b + o)) long eights whole (inl (omega arith)) (omega arith)))

  pub next-secondary : (S T U W : List ℕ) → T ≡ over b o (λ q. secondary_of L (q - b)) S → U ≡ over (b + o) 4 (λ x. byte_of L (x - (b + o))) T
      → W ≡ over (b + o + 4) 4 (λ x. byte_of o (x - (b + o + 4))) U → W ≡ over b (o + 8) (λ q. secondary_of L (q - b)) S
  next-secondary S T U W before first second =
      second
      ∙ rw (first, two-numbers T (b + o) L o, before)
      (over-next b o 8 (λ q. secondary_of L (q - b)) (λ q. piece_byte L o (q - (b + o))) S number-bytes)

-- past the last piece's numbers the secondary bytes are zero, as they were
pub last-secondary : (b L o : ℕ) → 9 ≤ L → o % 8 ≡ 0 → o ≤ L → L < o + 8 → (S T : List ℕ) → zeros (at S) b L ≡ true
    → T ≡ over b o (λ q. secondary_of L (q - b)) S → T ≡ over b L (λ q. secondary_of L (q - b)) S
unfolding secondary_of piece_of piece_byte
last-secondary b L o long eights within short S T z before =
    let e : o + (L - o) ≡ L = omega arith in
    before
    ∙ rw e at (over-tail b o (L - o) (λ q. secondary_of L (q - b)) S
    (λ q k x y. was-zero S b L q z (omega arith) (omega arith)
    ∙ sym (zero-byte (q - b) (omega arith) (omega arith))))
  where
    zero-byte : (i : ℕ) → o ≤ i → i < L → secondary_of L i ≡ 0
    zero-byte i x y = rw (lt-leb L 8 long, le-ltb (i - 8 * min (i / 8) (L / 8 - 1)) 4 (omega arith), le-ltb (i - 8 * min (i / 8) (L / 8 - 1)) 8 (omega arith))
