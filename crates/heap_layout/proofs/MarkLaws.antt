-- A byte of a block counts as written: one bit of one byte of the image is set. Assumes nothing.
use mathlib.Core.Path.{◌≡◌, sym, ap, ◌∙◌}
use mathlib.Core.Bool.{Bool, true, cond}
use mathlib.Core.List.{List}
use mathlib.Core.Option.{some}
use Prim.Native.Nat.{ℕ, suc, ◌+◌, ◌*◌, ◌-◌, ◌/◌, ◌%◌, ◌≤◌, ◌<◌}
use native.Mathlib.Omega.{arith}
use native.Mathlib.Nat.{div-add-mod', mod-lt, mul-le-mul_right, le-div_iff_mul-le, div-lt_iff_lt-mul}
use lib.ListN.{length, take, drop, set, length-set, length-take, length-drop}
use lib.Seq.{drop-set-lt, drop-set-add, take-set-le, take-set-lt, get_or-set_same, get_or-set_other}
use lib.Arith.{digits_div, digits_mod}
use lib.Dec.{ltb, eqb}
use borrow.Author.Tests.{ne_eqb, eq-eqb, eqb-true, eqb-false, ltb-true, ltb-false}
use Rattle.number.specs.Little.{byte_of}
use Rattle.number.specs.Bits.{of_bits, with_bit}
use Rattle.number.specs.Parts.{at}
use Rattle.number.proofs.TestLaws.{Test, is_true, is_false, test, eqb_same, not-both, Where, below, inside, above, locate}
use Rattle.number.proofs.BitLaws.{of_bits-set}
use Rattle.number.proofs.PartLaws.{is-tab}
use Rattle.plain.specs.Block.{Block, len, contains, mark_block}
use Rattle.plain.specs.Blocks.{find, mark_one, Has}
use Rattle.plain.specs.Rules.{Rules, Placed, Sound}
use Rattle.plain.specs.Areas.{segments, heap_rules}
use Rattle.plain.proofs.AreaLaws.{heap-sound}
use Rattle.plain.proofs.BlockLaws.{contains-true, true-contains}
use Rattle.plain.proofs.ListLaws.{find-has}
use Rattle.plain.proofs.LayerLaws.{layer-has, layer-mark}
use Rattle.heap_layout.specs.Image.{free, segment, cell_byte, covers, own, segment_of, heap_byte, heap_image}
use Rattle.heap_layout.specs.Reading.{bits_place}
use Rattle.heap_layout.specs.Ops.{heap_mark}
use Rattle.heap_layout.proofs.SegmentLaws.{Sizes, some-segment, segment-in, Stands, heap-foot, covers-true, covers-holds}
use Rattle.heap_layout.proofs.CellLaws.{Part, at-header, at-segment, part, own-header, own-segment}
use Rattle.heap_layout.proofs.ReadImage.{has-stands}
use Rattle.heap_layout.proofs.StampLaws.{length-image, at-image}

-- ---- n marks from x on, after mark i is set

module _ (n x : ℕ) (l : List Bool) (i : ℕ) where
  set_below : i < x → take n (drop x (set l i true)) ≡ take n (drop x l)
  set_below h = ap (take n) (drop-set-lt x l i true h)

  set-from : x ≤ i → take n (drop x (set l i true)) ≡ take n (set (drop x l) (i - x) true)
  set-from h = let e : x + (i - x) ≡ i = omega arith in ap (take n) (rw e at (drop-set-add x l (i - x) true))

  set-inside : x ≤ i → i < x + n → take n (drop x (set l i true)) ≡ set (take n (drop x l)) (i - x) true
  set-inside h k = set-from h ∙ take-set-lt n (drop x l) (i - x) true (omega arith)

  set-above : x + n ≤ i → take n (drop x (set l i true)) ≡ take n (drop x l)
  set-above h = set-from (omega arith) ∙ take-set-le n (drop x l) (i - x) true (omega arith)

-- byte q of a segment whose mark r is set: the byte of its bits has one bit more
byte-set : (W d r q : ℕ) (ms : List Bool) → r < length ms
    → cell_byte W (segment d (set ms r true)) q
    ≡ cond (eqb q (W + r / 8)) (with_bit (cell_byte W (segment d ms) q) (r % 8)) (cell_byte W (segment d ms) q)
unfolding cell_byte
byte-set W d r q ms h = go (test (ltb q W)) (locate (8 * (q - W)) (8 * (q - W) + 8) r)
  where
    -- its byte of bits, of these marks
    bits : List Bool → ℕ
    bits l = of_bits (take 8 (drop (8 * (q - W)) l))

    go : Test (ltb q W) → Where (8 * (q - W)) (8 * (q - W) + 8) r
        → cond (ltb q W) (byte_of (d + 1) q) (bits (set ms r true))
        ≡ cond (eqb q (W + r / 8)) (with_bit (cond (ltb q W) (byte_of (d + 1) q) (bits ms)) (r % 8)) (cond (ltb q W) (byte_of (d + 1) q) (bits ms))
    go (is_true t) w = rw (t, ne_eqb q (W + r / 8) (λ e. omega (arith, ltb-true q W t)))
    go (is_false t) (below y) = rw (t, ne_eqb q (W + r / 8) (λ e. omega arith), set_below 8 (8 * (q - W)) ms r y)
    go (is_false t) (inside y v) =
        let l : List Bool = take 8 (drop (8 * (q - W)) ms) in
        let o : r - 8 * (q - W) ≡ r % 8 = omega (arith, ltb-false q W t) in
        let k : r - 8 * (q - W) < length l = omega (arith, length-take 8 (drop (8 * (q - W)) ms), length-drop (8 * (q - W)) ms) in
        rw (t, eq-eqb q (W + r / 8) (omega (arith, ltb-false q W t)), set-inside 8 (8 * (q - W)) ms r y v, ← o) (of_bits-set l (r - 8 * (q - W)) k)
    go (is_false t) (above y v) = rw (t, ne_eqb q (W + r / 8) (λ e. omega (arith, ltb-false q W t)), set-above 8 (8 * (q - W)) ms r y)

module _ {W G size : ℕ} (z : Sizes W G size) where
  g : 0 < G
  g = some-segment z

  abbrev R : Rules
  R = heap_rules G 0 size

  S : Sound R
  S = heap-sound G g 0 size

  -- ---- the block's own segments

  module _ (p : ℕ) (b : Block) (t : Stands G size b.base (len b)) (x : b.base ≤ p) (y : p < b.base + len b) where
    abbrev marked-stands : Stands G size b.base (len (mark_block p b))
    marked-stands =
        let e = length-set b.marks (p - b.base) true in
        record { head = t.head; start = t.start; some = omega arith; fits = omega arith }

    mark-segment : (j r : ℕ) → r < G → Where (j * G) (j * G + G) (p - b.base)
        → cell_byte W (segment (j * G) (take G (drop (j * G) (set b.marks (p - b.base) true)))) r
        ≡ cond (eqb ((suc t.head + j) * G + r) (bits_place W G p)) (with_bit (cell_byte W (segment (j * G) (take G (drop (j * G) b.marks))) r) (p % G % 8))
        (cell_byte W (segment (j * G) (take G (drop (j * G) b.marks))) r)
    mark-segment j r h (below v) =
        let k = (div-lt_iff_lt-mul {k = G} {x = p} {y = suc t.head + j} g).1 (omega arith) in
        rw (
          ne_eqb ((suc t.head + j) * G + r) (bits_place W G p) (λ e. omega (arith, mul-le-mul_right G k, mod-lt p g)),
          set_below G (j * G) b.marks (p - b.base) v,
        )
    mark-segment j r h (inside v w) =
        let i : ℕ = p - b.base - j * G in
        let ep : p ≡ (suc t.head + j) * G + i = omega arith in
        let ed : p / G ≡ suc t.head + j = ap (λ (x : ℕ). x / G) ep ∙ digits_div (suc t.head + j) (omega arith) in
        let em : p % G ≡ i = ap (λ (x : ℕ). x % G) ep ∙ digits_mod (suc t.head + j) (omega arith) in
        let k : i < length (take G (drop (j * G) b.marks)) = omega (arith, length-take G (drop (j * G) b.marks), length-drop (j * G) b.marks) in
        rw (
          set-inside G (j * G) b.marks (p - b.base) v w,
          ed,
          em,
          eqb_same ((suc t.head + j) * G + r) ((suc t.head + j) * G + (W + i / 8)) r (W + i / 8) (λ q. omega arith) (λ q. omega arith),
        )
        (byte-set W (j * G) i r (take G (drop (j * G) b.marks)) k)
    mark-segment j r h (above v w) =
        let k = (le-div_iff_mul-le {k = G} {x = suc (suc t.head + j)} {y = p} g).1 (omega arith) in
        rw (
          ne_eqb ((suc t.head + j) * G + r) (bits_place W G p) (λ e. omega (arith, mul-le-mul_right G k)),
          set-above G (j * G) b.marks (p - b.base) v,
        )

    -- one bit of one byte is set
    mark-own : (s r : ℕ) → r < G → Part t.head (segments G (len b)) s
        → cell_byte W (own G (mark_block p b) s) r
        ≡ cond (eqb (s * G + r) (bits_place W G p)) (with_bit (cell_byte W (own G b s) r) (p % G % 8)) (cell_byte W (own G b s) r)
    mark-own s r h (at-header e) =
        let k = (le-div_iff_mul-le {k = G} {x = suc t.head} {y = p} g).1 (omega arith) in
        rw (
          e,
          own-header g size b t,
          own-header g size (mark_block p b) marked-stands,
          length-set b.marks (p - b.base) true,
          ne_eqb (t.head * G + r) (bits_place W G p) (λ q. omega (arith, mul-le-mul_right G k)),
        )
    mark-own s r h (at-segment j e k) =
        rw (e, own-segment g size b t j, own-segment g size (mark_block p b) marked-stands j)
        (mark-segment j r h (locate (j * G) (j * G + G) (p - b.base)))

  -- ---- the image

  module _ (bs : List Block) (P : Placed R 0 bs) (p : ℕ) (b : Block) (e : find (contains p) bs ≡ some b) where
    pub mark-byte : (q : ℕ) → heap_byte W G (mark_one p bs) q
        ≡ cond (eqb q (bits_place W G p)) (with_bit (heap_byte W G bs q) (p % G % 8)) (heap_byte W G bs q)
    unfolding heap_byte covers
    mark-byte q =
        let (h, c) = find-has (contains p) bs b e in
        let k = length-set b.marks (p - b.base) true in
        rw (layer-mark R S (covers G) (λ s. s * G) (heap-foot g size) (q / G) (own G) free p b bs 0 P e (rw k))
        (go h (has-stands z bs P h) (contains-true p b c) (test (covers G b (q / G))))
      where
        back : q / G * G + q % G ≡ q
        back = div-add-mod' q G

        go : Has b bs → Stands G size b.base (len b) → (b.base ≤ p) × (p < b.base + len b) → Test (covers G b (q / G))
            → cell_byte W (cond (covers G b (q / G)) (own G (mark_block p b) (q / G)) (segment_of G bs (q / G))) (q % G)
            ≡ cond (eqb q (bits_place W G p)) (with_bit (cell_byte W (segment_of G bs (q / G)) (q % G)) (p % G % 8)) (cell_byte W (segment_of G bs (q / G)) (q % G))
        go h t (x, y) (is_true c) =
            let u = covers-true g size b t (q / G) c in
            rw (
              c,
              layer-has R S (covers G) (λ s. s * G) (heap-foot g size) (q / G) (own G) free 0 P h c,
            )
            (rw back at (mark-own p b t x y (q / G) (q % G) (mod-lt q g) (part t.head (segments G (len b)) (q / G) u.0 u.1)))
        go h t (x, y) (is_false c) =
            rw (
              c,
              ne_eqb q (bits_place W G p) (λ k.
                  let d : q / G ≡ p / G = ap (λ (i : ℕ). i / G) k ∙ digits_div (p / G) (omega (arith, mod-lt p g)) in
                  not-both (covers G b (q / G)) (ap (covers G b) d ∙ covers-holds g size b t p (true-contains p b x y)) c),
            )

    pub mark-image : p < size → heap_mark W G (heap_image W G size bs) p ≡ heap_image W G size (mark_one p bs)
    unfolding heap_mark heap_image
    mark-image i =
        is-tab size (set h k v) (heap_byte W G (mark_one p bs)) (length-set h k v ∙ length-image z bs) (λ q x. go q (test (eqb q k)) ∙ sym (mark-byte q))
      where
        h : List ℕ
        h = heap_image W G size bs

        k : ℕ
        k = bits_place W G p

        v : ℕ
        v = with_bit (at h k) (p % G % 8)

        by : (q : ℕ) → at h q ≡ heap_byte W G bs q
        by q = ap (λ (f : ℕ → ℕ). f q) (at-image z bs P)

        in_area : k < length h
        in_area = omega (arith, segment-in z p i, length-image z bs, mod-lt p g)

        go : (q : ℕ) → Test (eqb q k) → at (set h k v) q ≡ cond (eqb q k) (with_bit (heap_byte W G bs q) (p % G % 8)) (heap_byte W G bs q)
        go q (is_true c) = let d : q ≡ k = eqb-true q k c in rw (c, ← by q, d) (get_or-set_same h k v 0 in_area)
        go q (is_false c) = rw (c, ← by q) (get_or-set_other h k q v 0 (eqb-false q k c))
