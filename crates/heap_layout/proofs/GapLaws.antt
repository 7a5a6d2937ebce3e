-- The gaps of an image are those of its list: a segment is all zeros exactly if no block's place holds a byte of it. Assumes nothing.
use mathlib.Core.Path.{◌≡◌, refl, sym, ap, ◌∙◌}
use mathlib.Core.Bool.{true, not}
use mathlib.Core.List.{List, [], ◌∷◌}
use mathlib.Core.Option.{Option, none, some}
use Prim.Native.Nat.{ℕ, suc, ◌+◌, ◌*◌, ◌-◌, ◌/◌, ◌<◌}
use native.Mathlib.Omega.{arith}
use native.Mathlib.Nat.{mul-le-mul_right, lt_of_mul-lt-mul_right}
use lib.Dec.{ltb}
use borrow.Author.Tests.{lt-ltb, ltb-true}
use Rattle.number.specs.Parts.{zeros}
use Rattle.number.proofs.TestLaws.{and-true, same_test, false_of, in-true}
use Rattle.number.proofs.PartLaws.{zeros-at, zeros-all}
use Rattle.plain.specs.Block.{Block, len}
use Rattle.plain.specs.Blocks.{find, found}
use Rattle.plain.specs.Rules.{Placed}
use Rattle.plain.specs.Areas.{segments, takes, heap_rules}
use Rattle.plain.proofs.AreaLaws.{heap-sound}
use Rattle.plain.proofs.GapLaws.{gaps-same}
use Rattle.plain.proofs.LayerLaws.{own_of, layer-find}
use Rattle.plain.proofs.ListLaws.{find-has}
use Rattle.heap_layout.specs.Image.{Cell, free, cell_byte, covers, own, segment_of, heap_byte, heap_image}
use Rattle.heap_layout.specs.Ops.{heap_gaps}
use Rattle.heap_layout.proofs.SegmentLaws.{Sizes, some-segment, Stands, stands, covers-in, covers-true, heap-foot}
use Rattle.heap_layout.proofs.CellLaws.{part, Shows, image-shows}
use Rattle.heap_layout.proofs.ReadImage.{has-stands}
use Rattle.heap_layout.proofs.StampLaws.{at-image, own-zero}

module _ {W G size : ℕ} (z : Sizes W G size) where
  g : 0 < G
  g = some-segment z

  takes-covers : (s : ℕ) (b : Block) → Stands G size b.base (len b) → takes G (0 + s * G) b ≡ covers G b s
  unfolding takes
  takes-covers s b t =
      same_test (takes G (0 + s * G) b) (covers G b s)
      (λ e.
      let u = and-true (ltb (b.base - G) (0 + s * G + G)) (ltb (0 + s * G) (b.base + n * G)) e in
      let x = ltb-true (b.base - G) (0 + s * G + G) u.0 in
      let y = ltb-true (0 + s * G) (b.base + n * G) u.1 in
      let p : t.head < suc s = lt_of_mul-lt-mul_right G {m = t.head} {n = suc s} (omega arith) in
      let q : s < t.head + suc n = lt_of_mul-lt-mul_right G {m = s} {n = t.head + suc n} (omega arith) in
      covers-in g size b t s ∙ in-true t.head (t.head + suc n) s (omega arith) q)
      (λ e.
      let u = covers-true g size b t s e in
      rw (
        lt-ltb (b.base - G) (0 + s * G + G) (omega (arith, mul-le-mul_right G u.0)),
        lt-ltb (0 + s * G) (b.base + n * G) (omega (arith, mul-le-mul_right G u.1)),
      ))
    where
      n : ℕ
      n = segments G (len b)

  find-takes : (s : ℕ) (bs : List Block) (from : ℕ) → Placed (heap_rules G 0 size) from bs → find (takes G (0 + s * G)) bs ≡ find (λ c. covers G c s) bs
  unfolding find
  find-takes s [] from P = refl
  find-takes s (c ∷ cs) from P =
      rw (
        takes-covers s c (stands g size c.base (len c) P.some P.fits P.aligned),
        find-takes s cs ((heap_rules G 0 size).high c.base (len c)) P.later,
      )

  module _ (bs : List Block) (P : Placed (heap_rules G 0 size) 0 bs) where
    -- a segment of the image
    zero-free : (s : ℕ) → zeros (heap_byte W G bs) (s * G) G ≡ not (found (find (λ c. covers G c s) bs))
    unfolding cell_byte
    zero-free s = go (find (λ c. covers G c s) bs) refl
      where
        go : (o : Option Block) → find (λ c. covers G c s) bs ≡ o → zeros (heap_byte W G bs) (s * G) G ≡ not (found o)
        go none e =
            let c : segment_of G bs s ≡ free =
            layer-find (heap_rules G 0 size) (heap-sound G g 0 size) (covers G) (λ s. s * G) (heap-foot g size) s (own G) free bs ∙ ap (own_of (own G) free s) e in
            zeros-all (heap_byte W G bs) (s * G) G (λ r k. image-shows W G bs s r k ∙ ap (λ (x : Cell). cell_byte W x r) c)
        go (some c) e =
            let (h, m) = find-has (λ d. covers G d s) bs c e in
            let t = has-stands z bs P h in
            let u = covers-true g size c t s m in
            false_of (zeros (heap_byte W G bs) (s * G) G) (λ q.
            own-zero z bs P s h t (part t.head (segments G (len c)) s u.0 u.1) (zero-shows q))
          where
            zero-shows : zeros (heap_byte W G bs) (s * G) G ≡ true → Shows W G (heap_byte W G bs) s free
            zero-shows q r k = zeros-at (heap_byte W G bs) (s * G) G r q k

    pub gaps-image : heap_gaps W G size (heap_image W G size bs) ≡ (heap_rules G 0 size).gaps bs
    unfolding heap_gaps
    gaps-image =
        gaps-same G 0 _ _ (size / G) 0 0 (λ i x y.
        rw (at-image z bs P) (zero-free i ∙ ap (λ (o : Option Block). not (found o)) (sym (find-takes i bs 0 P))))
