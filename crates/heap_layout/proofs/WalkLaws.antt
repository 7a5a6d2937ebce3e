-- What the audit's walk compares: segments that show cells, and the cells of a list by its first block. Assumes nothing.
use mathlib.Core.Path.{◌≡◌, refl, ap, ◌∙◌, subst}
use mathlib.Core.Bool.{Bool, true, false, cond, ◌&&◌}
use mathlib.Core.List.{List, ◌∷◌}
use Prim.Native.Nat.{ℕ, zero, suc, ◌+◌, ◌*◌, ◌-◌, ◌≤◌, ◌<◌, suc-le-suc, min}
use native.Mathlib.Omega.{arith}
use native.Mathlib.Nat.{add-zero, zero-add, add-suc, suc-add}
use lib.ListN.{length, get_or, take, drop}
use lib.Arith.{lt_of_le-ne}
use lib.Dec.{leb, eqb}
use borrow.Author.Tests.{eq-eqb, ne_eqb, eqb-true, eqb-false}
use Rattle.number.specs.Little.{word}
use Rattle.number.specs.Parts.{tab}
use Rattle.number.proofs.TestLaws.{Test, is_true, is_false, test, and-true, in-true, in-above}
use Rattle.number.proofs.BitLaws.{bit-back}
use Rattle.number.proofs.PartLaws.{length-tab, tab-eq}
use Rattle.plain.specs.Block.{Block, len}
use Rattle.plain.specs.Rules.{Placed}
use Rattle.plain.specs.Areas.{segments, heap_rules}
use Rattle.plain.specs.Layer.{layer}
use Rattle.plain.specs.Found.{bad, goes_on, begins}
use Rattle.plain.proofs.AreaLaws.{heap-sound}
use Rattle.plain.proofs.LayerLaws.{layer-low}
use Rattle.heap_layout.specs.Image.{Cell, free, header, segment, cell_byte, covers, own, segment_of}
use Rattle.heap_layout.specs.Reading.{written_bit}
use Rattle.heap_layout.specs.Walk.{agree, matches, marks_at, heap_walk}
use Rattle.heap_layout.proofs.SegmentLaws.{Sizes, Stands, covers-in, heap-foot}
use Rattle.heap_layout.proofs.CellLaws.{own-header, own-segment, Shows, segment-bit}

-- ---- a segment that matches a cell

agree_at : (f g : ℕ → ℕ) (q n i : ℕ) → agree f g q n ≡ true → i < n → f (q + i) ≡ g (q + i)
unfolding agree
agree_at f g q zero i e h = absurd (omega arith)
agree_at f g q (suc n) zero e h = rw add-zero (eqb-true (f q) (g q) (and-true (eqb (f q) (g q)) (agree f g (suc q) n) e).0)
agree_at f g q (suc n) (suc i) e h =
    rw (add-suc q i, ← suc-add q i) (agree_at f g (suc q) n i (and-true (eqb (f q) (g q)) (agree f g (suc q) n) e).1 (omega arith))

agree-all : (f g : ℕ → ℕ) (q n : ℕ) → ((i : ℕ) → i < n → f (q + i) ≡ g (q + i)) → agree f g q n ≡ true
unfolding agree
agree-all f g q zero h = refl
agree-all f g q (suc n) h =
    let h0 : f q ≡ g q = rw add-zero at (h 0 (omega arith)) in
    rw (eq-eqb (f q) (g q) h0) (agree-all f g (suc q) n (λ i k. rw (suc-add q i, ← add-suc q i) (h (suc i) (suc-le-suc k))))

module _ (W G size : ℕ) (f : ℕ → ℕ) (s : ℕ) where
  pub matches-shows : (c : Cell) → matches W G size f s c ≡ true → Shows W G f s c
  unfolding matches
  matches-shows c e r h = rw zero-add at (agree_at (λ (r : ℕ). f (s * G + r)) (cell_byte W c) 0 G r e h)

  pub shows-matches : (c : Cell) → Shows W G f s c → matches W G size f s c ≡ true
  unfolding matches
  shows-matches c h = agree-all (λ (r : ℕ). f (s * G + r)) (cell_byte W c) 0 G (λ i k. rw zero-add (h i k))

  pub length-marks : (n : ℕ) → length (marks_at W G size f s n) ≡ n
  unfolding marks_at
  length-marks n = length-tab 0 n _

-- the marks of a segment that shows them
pub marks-shows : {W G size : ℕ} → Sizes W G size → (f : ℕ → ℕ) (s d n : ℕ) (ms : List Bool) → length ms ≡ n → n ≤ G
    → Shows W G f s (segment d ms) → marks_at W G size f s n ≡ ms
unfolding marks_at
marks-shows {W} {G} {size} z f s d n ms l k h =
    subst (λ (x : ℕ). tab 0 x (λ r. eqb (written_bit W G f (s * G + r)) 1) ≡ ms) l
    (tab-eq false ms 0 _ (λ j i. rw (zero-add j, segment-bit z f s d ms j (omega arith) h) (bit-back (get_or ms j false))))

-- ---- n segments that show cells

abbrev pub Shown : (W G : ℕ) → (ℕ → ℕ) → (ℕ → Cell) → (s n : ℕ) → Type 0
Shown W G f c s n = (t : ℕ) → s ≤ t → t < s + n → Shows W G f t (c t)

module _ (W G : ℕ) (f : ℕ → ℕ) (c : ℕ → Cell) (s n : ℕ) where
  pub shown-more : Shows W G f s (c s) → Shown W G f c (suc s) n → Shown W G f c s (suc n)
  shown-more x y t h k = go (test (eqb s t))
    where
      go : Test (eqb s t) → Shows W G f t (c t)
      go (is_true e) = subst (λ (t : ℕ). Shows W G f t (c t)) (eqb-true s t e) x
      go (is_false e) = y t (lt_of_le-ne h (eqb-false s t e)) (omega arith)

  pub shown-first : Shown W G f c s (suc n) → Shows W G f s (c s)
  shown-first h = h s (omega arith) (omega arith)

  pub shown-later : Shown W G f c s (suc n) → Shown W G f c (suc s) n
  shown-later h t x y = h t (omega arith) (omega arith)

  pub shown-same : (d : ℕ → Cell) → ((t : ℕ) → s ≤ t → c t ≡ d t) → Shown W G f c s n → Shown W G f d s n
  shown-same d e h t x y = subst (Shows W G f t) (e t x) (h t x y)

-- ---- the cells of a list by its first block

module _ {G : ℕ} (g : 0 < G) (size : ℕ) (b : Block) (bs : List Block) (t : Stands G size b.base (len b)) where
  first-own : (s : ℕ) → t.head ≤ s → s < t.head + suc (segments G (len b)) → segment_of G (b ∷ bs) s ≡ own G b s
  unfolding layer
  first-own s x y = rw (covers-in g size b t s, in-true t.head (t.head + suc (segments G (len b))) s x y)

  pub first-header : segment_of G (b ∷ bs) t.head ≡ header (len b)
  first-header = first-own t.head (omega arith) (omega arith) ∙ own-header g size b t

  pub first-segment : (s j : ℕ) → s ≡ suc t.head + j → j < segments G (len b) → segment_of G (b ∷ bs) s ≡ segment (j * G) (take G (drop (j * G) b.marks))
  first-segment s j e k = first-own s (omega arith) (omega arith) ∙ ap (own G b) e ∙ own-segment g size b t j

  pub first-after : (s : ℕ) → suc t.head + segments G (len b) ≤ s → segment_of G (b ∷ bs) s ≡ segment_of G bs s
  unfolding layer
  first-after s h = rw (covers-in g size b t s, in-above t.head (t.head + suc (segments G (len b))) s (omega arith))

-- below a placed list a segment is free
pub low_free : {G : ℕ} (g : 0 < G) (size : ℕ) (bs : List Block) (s : ℕ) → Placed (heap_rules G 0 size) (suc s * G) bs → segment_of G bs s ≡ free
low_free {G} g size bs s P =
    layer-low (heap_rules G 0 size) (heap-sound G g 0 size) (covers G) (λ s. s * G) (heap-foot g size) s (own G) free bs (suc s * G) P (omega arith)

-- ---- one step of the walk

module _ (W G size : ℕ) (f : ℕ → ℕ) (n s : ℕ) where
  pub walk-idle : (d : ℕ) → heap_walk W G size f (suc n) s 0 d
      ≡ (let H = word f (s * G + W) W in
      cond (matches W G size f s free) (heap_walk W G size f n (suc s) 0 0)
      (cond (leb 1 H && leb (suc s * G + H) size && matches W G size f s (header H)) (begins (suc s * G) false (heap_walk W G size f n (suc s) H 0)) bad))
  unfolding heap_walk
  walk-idle d = refl

  pub walk-open : (L d : ℕ) → 1 ≤ L → heap_walk W G size f (suc n) s L d
      ≡ (let ms = marks_at W G size f s (min G (L - d)) in
      cond (matches W G size f s (segment d ms)) (goes_on ms (heap_walk W G size f n (suc s) (cond (leb L (d + G)) 0 L) (d + G))) bad)
  unfolding heap_walk
  walk-open L d h = rw (ne_eqb L 0 (λ e. omega arith))
