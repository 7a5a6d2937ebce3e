-- A block joins or leaves a list: what that does to the image, and where there is room. Assumes nothing.
use mathlib.Core.Path.{◌≡◌, refl, sym, ap, ◌∙◌, subst}
use mathlib.Core.Bool.{Bool, true, false, cond, not}
use mathlib.Core.List.{List, [], ◌∷◌}
use mathlib.Core.Option.{Option, none, some}
use Prim.Native.Nat.{ℕ, suc, ◌+◌, ◌*◌, ◌-◌, ◌/◌, ◌%◌, ◌≤◌, ◌<◌, max}
use native.Mathlib.Omega.{arith}
use native.Mathlib.Nat.{zero-mod, div-add-mod', mul-le-mul_right, le-div_iff_mul-le}
use lib.ListN.{length, replicate, take, drop}
use lib.Dec.{ltb}
use borrow.Author.Tests.{ltb-true}
use Rattle.number.specs.Parts.{at, zeros}
use Rattle.number.proofs.TestLaws.{and-true, false_of}
use Rattle.number.proofs.PartLaws.{length-tab, at-whole, tab-zero, over-tab, zeros-at, zeros-all}
use Rattle.plain.specs.Block.{Block, len}
use Rattle.plain.specs.Blocks.{find, found, any, insert, remove, Has}
use Rattle.plain.specs.Rules.{Rules, meets, Placed, Sound}
use Rattle.plain.specs.Areas.{segments, place_length, heap_rules}
use Rattle.plain.specs.Layer.{layer}
use Rattle.plain.proofs.AreaLaws.{heap-sound, heap-ranged}
use Rattle.plain.proofs.ListLaws.{find-has}
use Rattle.plain.proofs.LayerLaws.{Listed, layer-none, layer-apart, layer-insert, layer-remove}
use Rattle.heap_layout.specs.Image.{free, cell_byte, covers, own, segment_of, heap_byte, heap_image}
use Rattle.heap_layout.specs.Ops.{heap_vacant, heap_stamp, heap_erase}
use Rattle.heap_layout.proofs.SegmentLaws.{Sizes, some-segment, aligned-eq, segments-lt, Stands, listed-stands, heap-foot, covers-byte, meets-in}
use Rattle.heap_layout.proofs.CellLaws.{Part, at-header, at-segment, part, Shows, free-number, free-length, header-length, segment-number}
use Rattle.heap_layout.proofs.ReadImage.{has-stands, header-shows, segment-shows}

module _ {W G size : ℕ} (z : Sizes W G size) where
  g : 0 < G
  g = some-segment z

  abbrev R : Rules
  R = heap_rules G 0 size

  S : Sound R
  S = heap-sound G g 0 size

  -- ---- the bytes of an image

  pub length-image : (bs : List Block) → length (heap_image W G size bs) ≡ size
  unfolding heap_image
  length-image bs = length-tab 0 size (heap_byte W G bs)

  -- past the area's end there is nothing
  past : (bs : List Block) (q : ℕ) → Placed R 0 bs → size ≤ q → segment_of G bs (q / G) ≡ free
  past bs q P h =
      layer-none R S (covers G) (λ s. s * G) (heap-foot g size) (q / G) (own G) free bs 0 P
      (λ c l. false_of (covers G c (q / G)) (λ e. omega (arith, heap-foot g size c (q / G) l e, ends c l, aligned-eq g size z.whole, mul-le-mul_right G below)))
    where
      below : size / G ≤ q / G
      below = (le-div_iff_mul-le {k = G} {x = size / G} {y = q} g).1 (omega (arith, aligned-eq g size z.whole))

      -- a block's segments end in the area
      ends : (c : Block) → Listed R 0 c → c.base + segments G (len c) * G ≤ 0 + size
      ends c l = ((heap-ranged G g 0 size (zero-mod G) z.whole).r-foot c.base (len c) l.fits l.aligned).1

  pub at-image : (bs : List Block) → Placed R 0 bs → at (heap_image W G size bs) ≡ heap_byte W G bs
  unfolding heap_image heap_byte cell_byte
  at-image bs P = at-whole size (heap_byte W G bs) (λ q h. rw (past bs q P h))

  pub image-none : heap_image W G size [] ≡ replicate size 0
  unfolding heap_image heap_byte layer cell_byte
  image-none = tab-zero size 0 (heap_byte W G []) (λ q. refl)

  module _ (bs : List Block) (P : Placed R 0 bs) where
    -- ---- a block joins, a block goes

    pub stamp-image : (b : Block) → Listed R 0 b → any (meets R b.base (len b)) bs ≡ false
        → heap_stamp W G (heap_image W G size bs) b ≡ heap_image W G size (insert b bs)
    unfolding heap_stamp heap_image heap_byte layer
    stamp-image b l m =
        over-tab size (b.base - G) (place_length G (len b)) (heap_byte W G (b ∷ [])) (heap_byte W G bs) (heap_byte W G (insert b bs)) (λ q.
        rw (
          ← covers-byte g size b (listed-stands g size b 0 l) q,
          layer-insert R S (covers G) (λ s. s * G) (heap-foot g size) (q / G) (own G) free b bs 0 l P m,
        )
        (go q (covers G b (q / G))))
      where
        go : (q : ℕ) (t : Bool)
            → cond t (cell_byte W (cond t (own G b (q / G)) free) (q % G)) (cell_byte W (segment_of G bs (q / G)) (q % G))
            ≡ cell_byte W (cond t (own G b (q / G)) (segment_of G bs (q / G))) (q % G)
        go q true = refl
        go q false = refl

    pub erase-image : (b : Block) → Has b bs → heap_erase W G (heap_image W G size bs) b.base (len b) ≡ heap_image W G size (remove b.base bs)
    unfolding heap_erase heap_image heap_byte cell_byte
    erase-image b h =
        over-tab size (b.base - G) (place_length G (len b)) (λ q. 0) (heap_byte W G bs) (heap_byte W G (remove b.base bs)) (λ q.
        rw (
          ← covers-byte g size b (has-stands z bs P h) q,
          layer-remove R S (covers G) (λ s. s * G) (heap-foot g size) (q / G) (own G) free 0 P h,
        )
        (go q (covers G b (q / G))))
      where
        go : (q : ℕ) (t : Bool) → cond t 0 (cell_byte W (segment_of G bs (q / G)) (q % G)) ≡ cell_byte W (cond t free (segment_of G bs (q / G))) (q % G)
        go q true = refl
        go q false = refl

    -- ---- room

    -- a segment of a block's place is not all zeros
    pub own-zero : {c : Block} (s : ℕ) → Has c bs → (t : Stands G size c.base (len c)) → Part t.head (segments G (len c)) s
        → Shows W G (heap_byte W G bs) s free → ⊥
    own-zero {c} s h t (at-header e) zs =
        omega (
          arith,
          header-length z (heap_byte W G bs) t.head (len c) (omega arith) (header-shows z bs P h t),
          free-length z (heap_byte W G bs) t.head (subst (λ (x : ℕ). Shows W G (heap_byte W G bs) x free) e zs),
        )
    own-zero {c} s h t (at-segment j e k) zs =
        let d : j * G < len c = segments-lt g (len c) j k in
        omega (
          arith,
          segment-number z (heap_byte W G bs) s (j * G) (take G (drop (j * G) c.marks)) (omega arith) (segment-shows z bs P h t s j e k),
          free-number z (heap_byte W G bs) s zs,
        )

    -- a place of zeros meets no footprint, and one that meets none is zeros
    pub vacant-image : (b l : ℕ) → Stands G size b l → heap_vacant W G (heap_image W G size bs) b l ≡ not (any (meets R b l) bs)
    unfolding heap_vacant place_length heap_byte cell_byte
    vacant-image b l t = rw (at-image bs P) (go (find (meets R b l) bs) refl)
      where
        null : (q : ℕ) → segment_of G bs (q / G) ≡ free → heap_byte W G bs q ≡ 0
        null q e = rw e

        -- a byte of a segment of the place
        byte : zeros (heap_byte W G bs) (b - G) (G + segments G l * G) ≡ true
            → (s : ℕ) → t.head ≤ s → s < t.head + suc (segments G l) → Shows W G (heap_byte W G bs) s free
        byte e s x y r i =
            let q : b - G + (s * G + r - (b - G)) ≡ s * G + r = omega (arith, mul-le-mul_right G x) in
            rw q at (zeros-at (heap_byte W G bs) (b - G) (G + segments G l * G) (s * G + r - (b - G)) e (omega (arith, mul-le-mul_right G x, mul-le-mul_right G y)))

        shared : (c : Block) → Has c bs → Stands G size c.base (len c) → meets R b l c ≡ true
            → zeros (heap_byte W G bs) (b - G) (G + segments G l * G) ≡ true → ⊥
        shared c h u m e =
            let v = and-true (ltb t.head (u.head + suc (segments G (len c)))) (ltb u.head (t.head + suc (segments G l))) (sym (meets-in g size b l c t u) ∙ m) in
            let x = ltb-true t.head (u.head + suc (segments G (len c))) v.0 in
            let y = ltb-true u.head (t.head + suc (segments G l)) v.1 in
            let s : ℕ = max t.head u.head in
            own-zero s h u (part u.head (segments G (len c)) s (omega arith) (omega arith)) (byte e s (omega arith) (omega arith))

        go : (o : Option Block) → find (meets R b l) bs ≡ o → zeros (heap_byte W G bs) (b - G) (G + segments G l * G) ≡ not (found o)
        go none e = zeros-all (heap_byte W G bs) (b - G) (G + segments G l * G) (λ i h. null (b - G + i)
            (layer-apart R S (covers G) (λ s. s * G) (heap-foot g size) ((b - G + i) / G) (own G) free b l bs 0 P (ap found e)
            (omega (arith, mul-le-mul_right G ((le-div_iff_mul-le {k = G} {x = t.head} {y = b - G + i} g).1 (omega arith))))
            (omega (arith, div-add-mod' (b - G + i) G))))
        go (some c) e =
            let (h, m) = find-has (meets R b l) bs c e in
            false_of (zeros (heap_byte W G bs) (b - G) (G + segments G l * G)) (λ q. shared c h (has-stands z bs P h) m q)
