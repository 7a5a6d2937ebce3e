-- The heap layout, at any width and segment, meets the laws of images; and what its audit accepts is an image. Assumes nothing.
use mathlib.Core.Path.{◌≡◌, refl, ap, ◌∙◌, subst}
use mathlib.Core.List.{List}
use mathlib.Core.Option.{some}
use Prim.Native.Nat.{ℕ, ◌+◌, ◌-◌, ◌/◌, ◌%◌, ◌^◌, ◌≤◌, ◌<◌}
use native.Mathlib.Omega.{arith}
use lib.ListN.{length}
use borrow.Author.Tests.{eqb-true}
use Rattle.number.specs.Bits.{bit}
use Rattle.number.specs.Parts.{at}
use Rattle.number.proofs.TestLaws.{in-facts}
use Rattle.number.proofs.BitLaws.{bit-back}
use Rattle.number.proofs.PartLaws.{is-tab}
use Rattle.plain.specs.Block.{Block, len, contains, has_base, is_written}
use Rattle.plain.specs.Blocks.{find, remove}
use Rattle.plain.specs.Rules.{Placed}
use Rattle.plain.specs.Areas.{heap_rules}
use Rattle.plain.specs.Reading.{Tally, tally_of, says}
use Rattle.plain.specs.Found.{Found, bad, got, totals}
use Rattle.plain.specs.Images.{Images, Scanned}
use Rattle.plain.proofs.ListLaws.{find-has}
use Rattle.heap_layout.specs.Image.{heap_byte, heap_image}
use Rattle.heap_layout.specs.Reading.{heap_reading}
use Rattle.heap_layout.specs.Walk.{heap_walk}
use Rattle.heap_layout.specs.Ops.{heap_erase, heap_marked, heap_ops}
use Rattle.heap_layout.proofs.SegmentLaws.{Sizes, some-segment, aligned-eq, stands}
use Rattle.heap_layout.proofs.ReadingLaws.{reading-told}
use Rattle.heap_layout.proofs.ReadImage.{read-image}
use Rattle.heap_layout.proofs.StampLaws.{at-image, image-none, stamp-image, erase-image, vacant-image}
use Rattle.heap_layout.proofs.MarkLaws.{mark-image}
use Rattle.heap_layout.proofs.GapLaws.{gaps-image}
use Rattle.heap_layout.proofs.WalkSound.{walk-sound}
use Rattle.heap_layout.proofs.WalkComplete.{walk-image}

module _ {W G size : ℕ} (z : Sizes W G size) (bs : List Block) (P : Placed (heap_rules G 0 size) 0 bs) where
  reads : (p : ℕ) → heap_reading W G size (at (heap_image W G size bs)) p ≡ says p (find (contains p) bs)
  reads p = rw (at-image z bs P) (read-image z bs P p)

  erases : (x : ℕ) (b : Block) → find (has_base x) bs ≡ some b → heap_erase W G (heap_image W G size bs) x (len b) ≡ heap_image W G size (remove x bs)
  erases x b e =
      let (h, q) = find-has (has_base x) bs b e in
      subst (λ (y : ℕ). heap_erase W G (heap_image W G size bs) y (len b) ≡ heap_image W G size (remove y bs)) (eqb-true b.base x q) (erase-image z bs P b h)

  marked : (p : ℕ) (b : Block) → find (contains p) bs ≡ some b → heap_marked W G (heap_image W G size bs) p ≡ is_written b p
  unfolding heap_marked
  marked p b e =
      let t = reading-told W G size (at (heap_image W G size bs)) p b.base (len b) (p - b.base) (bit (is_written b p)) b.literal (reads p ∙ ap (says p) e) in
      rw (← t.written) (bit-back (is_written b p))

  audits : totals (heap_rules G 0 size) (heap_walk W G size (at (heap_image W G size bs)) (size / G) 0 0 0) ≡ some (tally_of (heap_rules G 0 size) bs)
  audits = rw (at-image z bs P, walk-image z (size / G) (omega (arith, aligned-eq (some-segment z) size z.whole)) bs P)

-- on the image of a placed list each operation does what the list does
pub heap-images : (W G size : ℕ) → 4 ≤ W → W + W ≤ G → size < 256 ^ W → size % G ≡ 0
    → Images (heap_rules G 0 size) (heap_ops W G size) (heap_image W G size)
heap-images W G size wide two small whole =
    record {
      image_nil = image-none z;
      image_read = λ bs P a i. reads z bs P a;
      image_vacant = λ bs P b l n f a. vacant-image z bs P b l (stands (some-segment z) size b l n f a);
      image_stamp = λ bs P b n f a m. stamp-image z bs P b (record { some = n; fits = f; aligned = a; room = omega arith }) m;
      image_erase = λ bs P x b i e. erases z bs P x b e;
      image_mark = λ bs P a b i e. mark-image z bs P a b e (omega (arith, in-facts 0 (0 + size) a i));
      image_marked = λ bs P a b i e. marked z bs P a b e;
      image_audit = λ bs P. audits z bs P;
      image_gaps = λ bs P. gaps-image z bs P;
    }
  where
    z : Sizes W G size
    z = record { wide = wide; two = two; small = small; whole = whole }

-- a shadow of the right length that the audit accepts is the image of a placed list
pub heap-scanned : (W G size : ℕ) → 4 ≤ W → W + W ≤ G → size < 256 ^ W → size % G ≡ 0
    → Scanned (heap_rules G 0 size) (heap_ops W G size) (heap_image W G size) (λ h. length h ≡ size)
unfolding heap_image
heap-scanned W G size wide two small whole = record { scanned = λ h t l e. go h t l (heap_walk W G size (at h) (size / G) 0 0 0) refl e }
  where
    g : 0 < G
    g = omega arith

    go : (h : List ℕ) (t : Tally) → length h ≡ size → (r : Found) → heap_walk W G size (at h) (size / G) 0 0 0 ≡ r → totals (heap_rules G 0 size) r ≡ some t
        → (bs : List Block) × Placed (heap_rules G 0 size) 0 bs × (h ≡ heap_image W G size bs)
    go h t l bad u e = absurd (let n : ◌≡◌ {A = ℕ} 0 1 = cc in omega arith)
    go h t l (got ms bs) u e =
        let r = walk-sound W g size (at h) (size / G) ms bs u in
        (bs, r.0, is-tab size h (heap_byte W G bs) l (λ q k. r.1 q (omega (arith, aligned-eq g size whole))))
