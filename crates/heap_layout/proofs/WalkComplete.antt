-- The walk accepts every image, and gives back its blocks. Assumes nothing.
use mathlib.Core.Path.{◌≡◌, refl, sym, ap, ◌∙◌, subst}
use mathlib.Core.Bool.{Bool, false, cond}
use mathlib.Core.List.{List, [], ◌∷◌, append-nil}
use Prim.Native.Nat.{ℕ, zero, suc, ◌+◌, ◌*◌, ◌-◌, ◌≤◌, ◌<◌, min}
use native.Mathlib.Omega.{arith}
use native.Mathlib.Nat.{zero-mul, zero-add, mul-le-mul_right, le_of_mul-le-mul_right}
use lib.ListN.{length, take, drop, length-take, length-drop, take-append-drop}
use lib.Seq.{take_all, drop-drop}
use lib.Dec.{leb, ltb}
use borrow.Author.Tests.{le-leb, leb-true, leb-false, ltb-true, ltb-false}
use Rattle.number.proofs.TestLaws.{Test, is_true, is_false, test, false_of}
use Rattle.plain.specs.Block.{Block, len}
use Rattle.plain.specs.Rules.{Rules, Placed, Sound}
use Rattle.plain.specs.Areas.{segments, heap_rules}
use Rattle.plain.specs.Found.{got, goes_on}
use Rattle.plain.proofs.AreaLaws.{heap-plain, heap-sound}
use Rattle.plain.proofs.KeptLaws.{weaken}
use Rattle.heap_layout.specs.Image.{free, header, segment, segment_of, heap_byte}
use Rattle.heap_layout.specs.Walk.{matches, heap_walk}
use Rattle.heap_layout.proofs.SegmentLaws.{Sizes, some-segment, segments-gt, segments-last, Stands, stands}
use Rattle.heap_layout.proofs.CellLaws.{Shows, image-shows, free-length, header-length}
use Rattle.heap_layout.proofs.WalkLaws.{matches-shows, shows-matches, marks-shows, Shown, shown-first, shown-later, shown-same, first-header, first-segment, first-after, low_free, walk-idle, walk-open}

module _ {W G size : ℕ} (z : Sizes W G size) (f : ℕ → ℕ) where
  g : 0 < G
  g = some-segment z

  abbrev R : Rules
  R = heap_rules G 0 size

  S : Sound R
  S = heap-sound G g 0 size

  -- no block goes on at s
  abbrev Idle : ℕ → Type 0
  Idle n = (s d : ℕ) (bs : List Block) → Placed R (s * G) bs → Shown W G f (segment_of G bs) s n → size ≤ (s + n) * G
      → heap_walk W G size f n s 0 d ≡ got [] bs

  -- block b goes on at s, its segment j, at offset d
  abbrev Open : ℕ → Type 0
  Open n = (s j d : ℕ) (b : Block) (bs : List Block) (t : Stands G size b.base (len b)) → s ≡ suc t.head + j → d ≡ j * G → d < len b
      → Placed R (b.base + segments G (len b) * G) bs → Shown W G f (segment_of G (b ∷ bs)) s n → size ≤ (s + n) * G
      → heap_walk W G size f n s (len b) d ≡ got (drop d b.marks) bs

  -- ---- one segment more, where no block goes on

  free_step : (n s d : ℕ) (bs : List Block) → Idle n → Placed R (suc s * G) bs → Shown W G f (segment_of G bs) s (suc n) → size ≤ (s + suc n) * G
      → heap_walk W G size f (suc n) s 0 d ≡ got [] bs
  free_step n s d bs ih P h y =
      let e : segment_of G bs s ≡ free = low_free g size bs s P in
      walk-idle W G size f n s d
      ∙ rw (
        shows-matches W G size f s free (subst (Shows W G f s) e (shown-first W G f (segment_of G bs) s n h)),
        ih (suc s) 0 bs P (shown-later W G f (segment_of G bs) s n h) (omega arith),
      )

  not_free : (s L : ℕ) → 1 ≤ L → L ≤ size → Shows W G f s (header L) → matches W G size f s free ≡ false
  not_free s L n l h = false_of (matches W G size f s free) (λ e. omega (arith, header-length z f s L l h, free-length z f s (matches-shows W G size f s free e)))

  header-step : (n s d : ℕ) (b : Block) (bs : List Block) (t : Stands G size b.base (len b)) → Open n → s ≡ t.head
      → b.literal ≡ false → Placed R (b.base + segments G (len b) * G) bs → Shown W G f (segment_of G (b ∷ bs)) s (suc n)
      → size ≤ (s + suc n) * G → heap_walk W G size f (suc n) s 0 d ≡ got [] (b ∷ bs)
  header-step n s d b bs t oh es nl P h y =
      let sh : Shows W G f s (header (len b)) =
      subst (Shows W G f s) (ap (segment_of G (b ∷ bs)) es ∙ first-header g size b bs t) (shown-first W G f (segment_of G (b ∷ bs)) s n h) in
      let eb : suc s * G ≡ b.base = omega (arith, ap (λ (x : ℕ). x * G) es) in
      walk-idle W G size f n s d
      ∙ rw (
        not_free s (len b) t.some (omega arith) sh,
        header-length z f s (len b) (omega arith) sh,
        le-leb 1 (len b) t.some,
        le-leb (suc s * G + len b) size (omega arith),
        shows-matches W G size f s (header (len b)) sh,
        oh (suc s) 0 0 b bs t (omega arith) (sym (zero-mul G)) t.some P (shown-later W G f (segment_of G (b ∷ bs)) s n h) (omega arith),
        eb,
        nl,
      )

  idle-step : (n : ℕ) → Idle n → Open n → Idle (suc n)
  idle-step n ih oh s d [] P h y = free_step n s d [] ih tt h y
  idle-step n ih oh s d (b ∷ bs) P h y = go (stands g size b.base (len b) P.some P.fits P.aligned)
    where
      go : Stands G size b.base (len b) → heap_walk W G size f (suc n) s 0 d ≡ got [] (b ∷ bs)
      go t = at-or-before (test (ltb s t.head))
        where
          at-or-before : Test (ltb s t.head) → heap_walk W G size f (suc n) s 0 d ≡ got [] (b ∷ bs)
          at-or-before (is_true e) =
              free_step n s d (b ∷ bs) ih
              (record { some = P.some; fits = P.fits; aligned = P.aligned; proper = P.proper; room = omega (arith, t.start, mul-le-mul_right G (ltb-true s t.head e)); later = P.later })
              h y
          at-or-before (is_false e) =
              let u : s ≤ t.head = le_of_mul-le-mul_right {m = s} {n = t.head} {k = G} (omega (arith, t.start, P.room)) g in
              header-step n s d b bs t oh (omega (arith, ltb-false s t.head e)) (heap-plain G 0 size b P.proper) P.later h y

  -- ---- one segment more, where a block goes on

  open_step : (n : ℕ) → Idle n → Open n → Open (suc n)
  open_step n ih oh s j d b bs t es ed k P h y =
      walk-open W G size f n s (len b) d (omega arith)
      ∙ rw (marks-shows z f s d (min G (len b - d)) m lm (omega arith) sh, shows-matches W G size f s (segment d m) sh) (go (test (leb (len b) (d + G))))
    where
      m : List Bool
      m = take G (drop d b.marks)

      lm : length m ≡ min G (len b - d)
      lm = length-take G (drop d b.marks) ∙ ap (min G) (length-drop d b.marks)

      sh : Shows W G f s (segment d m)
      sh = subst (Shows W G f s) (first-segment g size b bs t s j es (segments-gt g (len b) j (omega arith)) ∙ rw (← ed)) (shown-first W G f (segment_of G (b ∷ bs)) s n h)

      go : Test (leb (len b) (d + G)) → goes_on m (heap_walk W G size f n (suc s) (cond (leb (len b) (d + G)) 0 (len b)) (d + G)) ≡ got (drop d b.marks) bs
      go (is_true e) =
          let le : len b ≤ d + G = leb-true (len b) (d + G) e in
          let q : segments G (len b) ≡ suc j = segments-last g (len b) j (omega arith) (omega arith) in
          rw (
            e,
            ih (suc s) (d + G) bs
                (weaken R bs (b.base + segments G (len b) * G) (suc s * G)
                (omega (arith, t.start, ap (λ (x : ℕ). x * G) q, ap (λ (x : ℕ). x * G) es)) P)
                (shown-same W G f (segment_of G (b ∷ bs)) (suc s) n (segment_of G bs) (λ i x. first-after g size b bs t i (omega arith)) (shown-later W G f (segment_of G (b ∷ bs)) s n h))
                (omega arith),
            append-nil m,
          )
          (ap (λ (x : List Bool). got x bs) (take_all G (drop d b.marks) (omega (arith, length-drop d b.marks))))
      go (is_false e) =
          rw (
            e,
            oh (suc s) (suc j) (d + G) b bs t (omega arith) (omega arith) (leb-false (len b) (d + G) e) P (shown-later W G f (segment_of G (b ∷ bs)) s n h) (omega arith),
            ← drop-drop G d b.marks,
          )
          (ap (λ (x : List Bool). got x bs) (take-append-drop G (drop d b.marks)))

  -- ---- the whole walk

  idle-end : Idle 0
  unfolding heap_walk
  idle-end s d [] P h y = refl
  idle-end s d (b ∷ bs) P h y = absurd (omega (arith, (stands g size b.base (len b) P.some P.fits P.aligned).fits, P.room, P.some))

  open-end : Open 0
  open-end s j d b bs t es ed k P h y = absurd (omega (arith, t.start, t.fits, ap (λ (x : ℕ). x * G) es))

  complete : (n : ℕ) → Idle n × Open n
  complete zero = (idle-end, open-end)
  complete (suc n) = let (ih, oh) = complete n in (idle-step n ih oh, open_step n ih oh)

-- the walk gives back the blocks of an image
pub walk-image : {W G size : ℕ} → Sizes W G size → (n : ℕ) → size ≤ n * G → (bs : List Block) → Placed (heap_rules G 0 size) 0 bs
    → heap_walk W G size (heap_byte W G bs) n 0 0 0 ≡ got [] bs
walk-image {W} {G} {size} z n h bs P =
    (complete z (heap_byte W G bs) n).0 0 0 bs (rw zero-mul P) (λ t x y. image-shows W G bs t) (rw zero-add h)
