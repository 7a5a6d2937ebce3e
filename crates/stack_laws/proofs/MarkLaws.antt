-- The written bits of a run of primary bytes, one by one and as one word; the secondary has no part in them. Assumes nothing.
use mathlib.Core.Path.{◌≡◌, refl, ap, ◌∙◌}
use mathlib.Core.Bool.{true, ◌&&◌}
use mathlib.Core.Bool as bool
use mathlib.Core.List.{List}
use Prim.Native.Nat.{ℕ, zero, suc, ◌+◌, ◌-◌, ◌*◌, ◌/◌, ◌%◌, ◌≤◌, ◌<◌}
use native.Mathlib.Omega.{arith}
use native.Mathlib.Nat.{add-zero, add-suc, suc-add}
use native.Mathlib.Numerals.{add-one}
use lib.ListN.{length, set, length-set}
use lib.Bits.{bit_and, bit_or, or_step, or_zero_r, or_block, and_comm, and_mask}
use lib.Dec.{eqb, lit<}
use Rattle.number.specs.Little.{byte_of, word}
use Rattle.number.specs.Parts.{at, over}
use Rattle.number.proofs.TestLaws.{same_digits}
use Rattle.number.proofs.PartLaws.{over-above, over-ext, over-more, over-next, over_none}
use Rattle.number.proofs.WordLaws.{AllBytes, byte_of-word, word_and}
use Rattle.plain.specs.Ops.{mark_range, range_marked}
use Rattle.plain.proofs.MarkedLaws.{range_same, marked_next}
use Rattle.stack_layout.specs.Ops.{StackShadows, with_written, stack_mark, stack_marked, stack_ops}

pub or-written : (x : ℕ) → bit_or x 1 ≡ with_written x
or-written x = or_step x 1 ∙ omega (arith, or_zero_r (x / 2))

-- one byte marked
pub mark-one : (P : List ℕ) (q : ℕ) → q < length P → set P q (with_written (at P q)) ≡ over q 1 (λ x. with_written (at P x)) P
mark-one P q h =
    let f : ℕ → ℕ = λ x. with_written (at P x) in
    rw (over_none q f P, add-zero q) at (over-more q 0 f P (omega arith))

-- a byte stays a byte
pub written-bytes : (f : ℕ → ℕ) → AllBytes f → AllBytes (λ q. with_written (f q))
written-bytes f b q = let h : f q < 256 = b q in omega arith

-- the bits of a word, set at once
pub word-written : (f : ℕ → ℕ) → AllBytes f → (w q p : ℕ) → bit_or (word f q w) (word (λ i. 1) p w) ≡ word (λ i. with_written (f i)) q w
unfolding word
word-written f b zero q p = refl
word-written f b (suc w) q p =
    let r = word (λ i. 1) (suc p) w in
    let e = or_block 8 (word f (suc q) w) r (f q) 1 (b q) (lit< tt) in
    let x : f q + 256 * word f (suc q) w ≡ word f (suc q) w * 256 + f q = omega arith in
    let y : 1 + 256 * r ≡ r * 256 + 1 = omega arith in
    rw (x, y, e, word-written f b w (suc q) (suc p), or-written (f q)) (omega arith)

pub mark-word : (P : List ℕ) → AllBytes (at P) → (w q v : ℕ) → v ≡ bit_or (word (at P) q w) (word (λ i. 1) 0 w)
    → over q w (λ x. byte_of v (x - q)) P ≡ over q w (λ x. with_written (at P x)) P
mark-word P b w q v e =
    over-ext q w (λ x. byte_of v (x - q)) (λ x. with_written (at P x)) P
    (λ x y z.
    let o : q + (x - q) ≡ x = omega arith in
    rw (e, word-written (at P) b w q 0) (rw o at (byte_of-word (λ i. with_written (at P i)) (written-bytes (at P) b) w q (x - q) (omega arith))))

-- bytes marked, and the bytes right after them
pub over-marked : (P Q R : List ℕ) (q m n : ℕ) → q + m + n ≤ length P → Q ≡ over q m (λ x. with_written (at P x)) P
    → R ≡ over (q + m) n (λ x. with_written (at Q x)) Q → R ≡ over q (m + n) (λ x. with_written (at P x)) P
over-marked P Q R q m n h e e' =
    let f : ℕ → ℕ = λ x. with_written (at P x) in
    e'
    ∙ rw e
    (over-next q m n f (λ x. with_written (at (over q m f P) x)) P (λ x y z. ap with_written (over-above q m f P x (omega arith) y)))

-- a mark of each of n bytes writes over them
pub mark-range : (size : ℕ) (P S : List ℕ) (p n : ℕ) → p + n ≤ length P
    → ◌≡◌ {A = StackShadows} (over p n (λ q. with_written (at P q)) P, S) (mark_range (stack_ops size) (P, S) p n)
unfolding mark_range stack_mark
mark-range size P S p zero h = rw (over_none p (λ q. with_written (at P q)) P)
mark-range size P S p (suc n) h =
    let Q : List ℕ = set P p (with_written (at P p)) in
    let s : 1 + n ≡ suc n = omega arith in
    let first = rw (s, add-one p) at (over-marked P Q _ p 1 n (omega arith) (mark-one P p (omega arith)) refl) in
    rw (← first) (mark-range size Q S (suc p) n (rw (length-set P p (with_written (at P p))) (omega arith)))

-- the bytes alone count, wherever they stand
pub marked-same : (size size' : ℕ) (P Q S T : List ℕ) (a b n : ℕ) → ((i : ℕ) → i < n → at P (a + i) ≡ at Q (b + i))
    → range_marked (stack_ops size) (P, S) a n ≡ range_marked (stack_ops size') (Q, T) b n
unfolding stack_marked
marked-same size size' P Q S T a b n h = range_same (stack_ops size) (stack_ops size') (P, S) (Q, T) n a b (λ i k. rw (h i k))

pub marked-one : (size : ℕ) (P S : List ℕ) (q : ℕ) → range_marked (stack_ops size) (P, S) q 1 ≡ eqb (at P q % 2) 1
unfolding range_marked stack_marked
marked-one size P S q = bool.and-true (eqb (at P q % 2) 1)

-- one byte more
pub marked_more : (size : ℕ) (P S : List ℕ) (p n : ℕ)
    → range_marked (stack_ops size) (P, S) p (n + 1) ≡ (range_marked (stack_ops size) (P, S) p n && eqb (at P (p + n) % 2) 1)
marked_more size P S p n = rw (marked_next (stack_ops size) (P, S) p n 1, marked-one size P S (p + n))

-- a range is marked where each byte is
pub marked-each : (size : ℕ) (P S : List ℕ) (p n : ℕ) → ((i : ℕ) → i < n → at P (p + i) % 2 ≡ 1) → range_marked (stack_ops size) (P, S) p n ≡ true
unfolding range_marked stack_marked
marked-each size P S p zero h = refl
marked-each size P S p (suc n) h =
    let first : at P p % 2 ≡ 1 = rw (add-zero p) at (h 0 (omega arith)) in
    rw (first, marked-each size P S (suc p) n (λ i k. rw (suc-add p i, ← add-suc p i) (h (suc i) (omega arith))))

-- a bit that has seen only ones sees one more byte
pub seen_more : (s x : ℕ) → s < 2 → (eqb (bit_and s x) 1 ≡ (eqb s 1 && eqb (x % 2) 1)) × (bit_and s x < 2)
seen_more zero x h = (refl, omega arith)
seen_more (suc zero) x h = rw (and_comm 1 x, and_mask x 1) (refl, omega arith)
seen_more (suc (suc s)) x h = absurd (omega arith)

-- the bits of a word are all ones exactly if each is
word-bits : (size : ℕ) (P S : List ℕ) (w q p : ℕ) → eqb (word (λ i. bit_and (at P i) 1) q w) (word (λ i. 1) p w) ≡ range_marked (stack_ops size) (P, S) q w
unfolding word range_marked stack_marked
word-bits size P S zero q p = refl
word-bits size P S (suc w) q p =
    let m : bit_and (at P q) 1 ≡ at P q % 2 = and_mask (at P q) 1 in
    same_digits 256 (bit_and (at P q) 1) 1 (word (λ i. bit_and (at P i) 1) (suc q) w) (word (λ i. 1) (suc p) w) (omega arith) (lit< tt)
    ∙ rw (m, word-bits size P S w (suc q) (suc p))

-- the bits of a word, tested at once
pub word-marked : (size : ℕ) (P S : List ℕ) → AllBytes (at P) → (w q : ℕ)
    → eqb (bit_and (word (at P) q w) (word (λ i. 1) 0 w)) (word (λ i. 1) 0 w) ≡ range_marked (stack_ops size) (P, S) q w
word-marked size P S b w q =
    ap (λ (x : ℕ). eqb x (word (λ i. 1) 0 w)) (rw (add-zero w) at (word_and (at P) 1 b (lit< tt) w 0 q 0)) ∙ word-bits size P S w q 0
