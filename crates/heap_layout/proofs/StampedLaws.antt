-- A block that begins on any heap shadow, an image or not: it is read at its base, and marks of its bytes leave what the marked block would
-- have left. Assumes nothing.
use mathlib.Core.Path.{◌≡◌, sym, ap, ◌∙◌}
use mathlib.Core.Bool.{true, cond}
use mathlib.Core.List.{List, [], ◌∷◌}
use mathlib.Core.Option.{some}
use Prim.Native.Nat.{ℕ, suc, ◌+◌, ◌*◌, ◌-◌, ◌/◌, ◌%◌, ◌^◌, ◌≤◌, ◌<◌}
use native.Mathlib.Omega.{arith}
use native.Mathlib.Nat.{mod-lt, mul-le-mul_right, mul-mod_left, zero-mod, sub_self, zero-add}
use lib.Arith.{digits_div}
use lib.ListN.{length, length-set}
use lib.Dec.{eqb}
use borrow.Author.Tests.{le-leb, lt-leb, lt-ltb, eqb-true}
use Rattle.number.specs.Bits.{bit, with_bit}
use Rattle.number.specs.Little.{word}
use Rattle.number.specs.Parts.{at}
use Rattle.number.proofs.TestLaws.{Test, is_true, is_false, test, in-facts}
use Rattle.number.proofs.LittleLaws.{word_same}
use Rattle.number.proofs.PartLaws.{length_over, over-in, set-over, over-ext}
use Rattle.plain.specs.Block.{Block, len, contains, is_written, mark_block}
use Rattle.plain.specs.Blocks.{find, mark_one}
use Rattle.plain.specs.Rules.{Placed}
use Rattle.plain.specs.Areas.{segments, place_length, heap_rules}
use Rattle.plain.specs.Layer.{layer}
use Rattle.plain.specs.Reading.{says}
use Rattle.plain.specs.ShadowCalls.{in_one}
use Rattle.plain.proofs.AreaLaws.{heap-plain, heap-ranged}
use Rattle.plain.proofs.BlockLaws.{contains-true, true-contains}
use Rattle.plain.proofs.StampedLaws as plain
use Rattle.plain.proofs.StampedLaws.{Stamped}
use Rattle.heap_layout.specs.Image.{Cell, header, cell_byte, covers, segment_of, heap_byte}
use Rattle.heap_layout.specs.Reading.{bits_place, heap_reading}
use Rattle.heap_layout.specs.Ops.{heap_stamp, heap_mark, heap_ops}
use Rattle.heap_layout.proofs.SegmentLaws.{Sizes, some-segment, Stands, stands, base-div, aligned-eq, segments-gt, covers-byte, covers-holds, segment-in}
use Rattle.heap_layout.proofs.CellLaws.{own-header, Shows, image-shows, header-number, header-length}
use Rattle.heap_layout.proofs.ReadingLaws.{read_some, reading-told, reading-plain}
use Rattle.heap_layout.proofs.ReadImage.{read-image}
use Rattle.heap_layout.proofs.MarkLaws.{mark-byte}

module _ {W G size : ℕ} (z : Sizes W G size) (h : List ℕ) (fit : length h ≡ size) (b : Block) (t : plain.Stands (heap_rules G 0 size) b) where
  g : 0 < G
  g = some-segment z

  u : Stands G size b.base (len b)
  u = stands g size b.base (len b) t.some t.fits t.aligned

  alone : Placed (heap_rules G 0 size) 0 (b ∷ [])
  alone = record { some = t.some; fits = t.fits; aligned = t.aligned; proper = t.proper; room = omega arith; later = tt }

  -- its place ends in the area
  pub ends : b.base + segments G (len b) * G ≤ size
  ends = omega (arith, ((heap-ranged G g 0 size (zero-mod G) z.whole).r-foot b.base (len b) t.fits t.aligned).1)

  -- the bytes of its place are those of its image
  placed : (q : ℕ) → b.base - G ≤ q → q < b.base - G + place_length G (len b) → at (heap_stamp W G h b) q ≡ heap_byte W G (b ∷ []) q
  unfolding heap_stamp place_length
  placed q x y =
      over-in (b.base - G) (G + segments G (len b) * G) (heap_byte W G (b ∷ [])) h q (omega (arith, ends, u.start)) x y

  some-place : 1 ≤ segments G (len b)
  some-place = segments-gt g (len b) 0 (omega (arith, t.some))

  -- ---- the numbers in its place

  abbrev stamped : ℕ → ℕ
  stamped = at (heap_stamp W G h b)

  shown : Shows W G (heap_byte W G (b ∷ [])) u.head (header (len b))
  unfolding layer covers
  shown r k =
      let e : segment_of G (b ∷ []) u.head ≡ header (len b) =
      rw (base-div g size b u, le-leb (suc u.head) (suc u.head) (omega arith), lt-ltb u.head (suc u.head + segments G (len b)) (omega arith)) (own-header g size b u) in
      image-shows W G (b ∷ []) u.head r k ∙ ap (λ (c : Cell). cell_byte W c r) e

  same_word : (q : ℕ) → b.base - G ≤ q → q + W ≤ b.base + segments G (len b) * G → word stamped q W ≡ word (heap_byte W G (b ∷ [])) q W
  unfolding place_length
  same_word q x y = word_same stamped (heap_byte W G (b ∷ [])) q q W (λ i k. placed (q + i) (omega arith) (omega (arith, u.start)))

  -- the header's: 0, and the length
  pub stamped-header : word stamped (b.base - G) W ≡ 0
  stamped-header =
      let e : b.base - G ≡ u.head * G = omega (arith, u.start) in
      same_word (b.base - G) (omega arith) (omega (arith, u.start, z.two)) ∙ rw e (header-number z (heap_byte W G (b ∷ [])) u.head (len b) shown)

  pub stamped-length : word stamped (b.base - G + W) W ≡ len b
  stamped-length =
      let e : b.base - G ≡ u.head * G = omega (arith, u.start) in
      same_word (b.base - G + W) (omega arith) (omega (arith, u.start, z.two))
      ∙ rw e (header-length z (heap_byte W G (b ∷ [])) u.head (len b) (omega (arith, u.fits)) shown)

  -- that of segment j: its offset + 1
  pub stamped-number : (j : ℕ) → j * G < len b → word stamped (b.base + j * G) W ≡ j * G + 1
  unfolding find
  stamped-number j x =
      let p : ℕ = b.base + j * G in
      let F : ℕ → ℕ = heap_byte W G (b ∷ []) in
      let held : contains p b ≡ true = true-contains p b (omega arith) (omega arith) in
      let e : p / G * G ≡ p = aligned-eq g p (rw u.start (ap (λ (q : ℕ). q % G) (sum j) ∙ mul-mod_left (suc u.head + j) G)) in
      let T = reading-told W G size F p b.base (len b) (p - b.base) (bit (is_written b p)) b.literal (read-image z (b ∷ []) alone p ∙ rw held) in
      let n : word F p W ≡ p - b.base + 1 = rw e at T.number in
      let d : p - b.base + 1 ≡ j * G + 1 = omega arith in
      same_word p (omega arith) (omega (arith, mul-le-mul_right G (segments-gt g (len b) j x), z.two)) ∙ n ∙ d
    where
      sum : (j : ℕ) → suc u.head * G + j * G ≡ (suc u.head + j) * G
      sum j = omega arith

  here : find (contains b.base) (b ∷ []) ≡ some b
  unfolding find
  here = rw (true-contains b.base b (omega arith) (omega (arith, t.some)))

  read-base : in_one (len b) (heap_reading W G size (at (heap_stamp W G h b)) b.base) ≡ true
  unfolding place_length
  read-base =
      let B : ℕ = b.base in
      let F : ℕ → ℕ = heap_byte W G (b ∷ []) in
      let f : ℕ → ℕ = at (heap_stamp W G h b) in
      let T = reading-told W G size F B B (len b) (B - B) (bit (is_written b B)) b.literal (read-image z (b ∷ []) alone B ∙ ap (says B) here) in
      let e : B / G * G ≡ B = aligned-eq g B (eqb-true (B % G) 0 t.aligned) in
      let n : word f (B / G * G) W ≡ word F (B / G * G) W =
      word_same f F (B / G * G) (B / G * G) W (λ i k. placed (B / G * G + i) (omega arith) (omega (arith, mul-le-mul_right G some-place, u.start))) in
      let l : word f (B - G + W) W ≡ word F (B - G + W) W =
      word_same f F (B - G + W) (B - G + W) W (λ i k. placed (B - G + W + i) (omega arith) (omega (arith, u.start))) in
      let r = read_some W G size f B 0 B (len b) (n ∙ T.number ∙ omega arith) (omega arith) (l ∙ T.long) (zero-mod G) T.room t.some T.fits (omega (arith, t.some)) in
      rw (r, sub_self B, lt-leb (len b) 0 (omega (arith, t.some)), zero-add (len b)) (le-leb (len b) (len b) (omega arith))

  module _ (p : ℕ) (e : contains p b ≡ true) where
    held : find (contains p) (b ∷ []) ≡ some b
    unfolding find
    held = rw e

    inside : p < size
    inside = let x = contains-true p b e in omega (arith, u.fits)

    -- the byte of its written bits is in the place
    in_place : (b.base - G ≤ bits_place W G p) × (bits_place W G p < b.base - G + place_length G (len b))
    in_place =
        let d : bits_place W G p / G ≡ p / G = digits_div (p / G) (omega (arith, mod-lt p g)) in
        in-facts (b.base - G) (b.base - G + place_length G (len b)) (bits_place W G p)
        (sym (covers-byte g size b u (bits_place W G p)) ∙ ap (covers G b) d ∙ covers-holds g size b u p e)

    marked-byte : (q : ℕ) → heap_byte W G (mark_block p b ∷ []) q
        ≡ cond (eqb q (bits_place W G p)) (with_bit (heap_byte W G (b ∷ []) q) (p % G % 8)) (heap_byte W G (b ∷ []) q)
    unfolding mark_one
    marked-byte q = rw e at (mark-byte z (b ∷ []) alone p b held q)

    mark-base : heap_mark W G (heap_stamp W G h b) p ≡ heap_stamp W G h (mark_block p b)
    unfolding heap_mark heap_stamp
    mark-base =
        rw (
          length-set b.marks (p - b.base) true,
          placed (bits_place W G p) in_place.0 in_place.1,
          set-over (b.base - G) (place_length G (len b)) (bits_place W G p) v F h in_place.0 in_place.1 (omega (arith, segment-in z p inside, mod-lt p g)),
        )
        (over-ext (b.base - G) (place_length G (len b)) (λ q. cond (eqb q (bits_place W G p)) v (F q)) (heap_byte W G (mark_block p b ∷ [])) h
        (λ q x y. go q (test (eqb q (bits_place W G p))) ∙ sym (marked-byte q)))
      where
        F : ℕ → ℕ
        F = heap_byte W G (b ∷ [])

        v : ℕ
        v = with_bit (F (bits_place W G p)) (p % G % 8)

        go : (q : ℕ) → Test (eqb q (bits_place W G p)) → cond (eqb q (bits_place W G p)) v (F q) ≡ cond (eqb q (bits_place W G p)) (with_bit (F q) (p % G % 8)) (F q)
        go q (is_true c) = let d : q ≡ bits_place W G p = eqb-true q (bits_place W G p) c in rw (c, d)
        go q (is_false c) = rw c

pub heap-stamped : (W G size : ℕ) → 4 ≤ W → W + W ≤ G → size < 256 ^ W → size % G ≡ 0
    → Stamped (heap_rules G 0 size) (heap_ops W G size) (λ h. length h ≡ size)
unfolding heap_stamp
heap-stamped W G size wide two small whole =
    record {
      stamp-fit = λ h k b. length_over _ _ _ h ∙ k;
      stamp-read = λ h k b t. read-base z h k b t;
      stamp-literal = λ h k b t. reading-plain W G size (at (heap_stamp W G h b)) b.base ∙ sym (heap-plain G 0 size b t.proper);
      stamp-mark = λ h k b t a e. mark-base z h k b t a e;
    }
  where
    z : Sizes W G size
    z = record { wide = wide; two = two; small = small; whole = whole }
