-- Segments: how many a block takes, where it stands, and which of them its place covers. Assumes nothing.
use mathlib.Core.Path.{◌≡◌, sym, ap, ◌∙◌}
use mathlib.Core.Bool.{true, ◌&&◌}
use Prim.Native.Nat.{ℕ, zero, suc, ◌+◌, ◌*◌, ◌-◌, ◌/◌, ◌%◌, ◌^◌, ◌≤◌, ◌<◌}
use native.Mathlib.Omega.{arith}
use native.Mathlib.Nat.{div-add-mod', mul-le-mul_right, mul-mod_left, mul-div_cancel, div-eq_of_lt-le, suc-mul, lt_of_mul-lt-mul_right, le-div_iff_mul-le, div-lt_iff_lt-mul}
use lib.Dec.{ltb, leb-suc-suc}
use borrow.Author.Tests.{lt-ltb, eq-eqb, ltb-true, eqb-true}
use Rattle.number.specs.Parts.{in_part}
use Rattle.number.proofs.TestLaws.{same_test, in-true, in-facts}
use Rattle.plain.specs.Block.{Block, len, contains}
use Rattle.plain.specs.Rules.{meets}
use Rattle.plain.specs.Areas.{segments, place_length, heap_rules}
use Rattle.plain.proofs.AreaLaws.{Span, segments-up, segments-down, heap-span, span-heap}
use Rattle.plain.proofs.BlockLaws.{contains-true}
use Rattle.plain.proofs.LayerLaws.{Listed, InFoot}
use Rattle.heap_layout.specs.Image.{covers}

-- what the layout asks of its numbers: the width, the segment, the area's size
pub record Sizes (W G size : ℕ) : Type 0 where
  pub wide : 4 ≤ W
  pub two : W + W ≤ G
  pub small : size < 256 ^ W
  pub whole : size % G ≡ 0

pub some-segment : {W G size : ℕ} → Sizes W G size → 0 < G
some-segment z = omega arith

-- a block of this base and length stands in the area: segment `head` is its header
pub record Stands (G size base length : ℕ) : Type 0 where
  pub head : ℕ
  pub start : base ≡ suc head * G
  pub some : 1 ≤ length
  pub fits : base + length ≤ size

module _ {G : ℕ} (g : 0 < G) where
  -- ---- how many segments

  -- the first byte of segment j of a block is the block's
  pub segments-lt : (n j : ℕ) → j < segments G n → j * G < n
  segments-lt n j h = omega (arith, segments-down G n, mul-le-mul_right G h, suc-mul j G)

  -- a byte of segment j, and the last segment
  pub segments-gt : (n j : ℕ) → j * G < n → j < segments G n
  segments-gt n j h = lt_of_mul-lt-mul_right G {m = j} {n = segments G n} (omega (arith, segments-up G g n))

  pub segments-last : (n j : ℕ) → j * G < n → n ≤ j * G + G → segments G n ≡ suc j
  unfolding segments
  segments-last n j h k = div-eq_of_lt-le {k = suc j} G {m = n + (G - 1)} (omega arith) (omega arith)

  -- ---- where a block stands

  pub aligned-eq : (x : ℕ) → x % G ≡ 0 → x / G * G ≡ x
  aligned-eq x h = omega (arith, div-add-mod' x G)

  module _ (size : ℕ) where
    pub stands : (b l : ℕ) → 1 ≤ l → (heap_rules G 0 size).fits b l ≡ true → (heap_rules G 0 size).aligned b ≡ true → Stands G size b l
    stands b l n f a = go (b / G) (aligned-eq b (eqb-true (b % G) 0 a)) (heap-span G 0 size b l f)
      where
        go : (k : ℕ) → k * G ≡ b → Span 0 size G b l → Stands G size b l
        go zero e h = absurd (omega arith)
        go (suc k) e h = record { head = k; start = sym e; some = n; fits = omega arith }

    pub stands-rules : (b l : ℕ) → Stands G size b l → ((heap_rules G 0 size).fits b l ≡ true) × ((heap_rules G 0 size).aligned b ≡ true)
    stands-rules b l t = (
      span-heap G 0 size b l (record { from = omega arith; to = omega arith; begins = omega arith }),
      eq-eqb (b % G) 0 (ap (λ (x : ℕ). x % G) t.start ∙ mul-mod_left (suc t.head) G),
    )

    pub listed-stands : (b : Block) (from : ℕ) → Listed (heap_rules G 0 size) from b → Stands G size b.base (len b)
    listed-stands b from l = stands b.base (len b) l.some l.fits l.aligned

    -- ---- which segments a block covers

    module _ (b : Block) (t : Stands G size b.base (len b)) where
      pub base-div : b.base / G ≡ suc t.head
      base-div = ap (λ (x : ℕ). x / G) t.start ∙ mul-div_cancel (suc t.head) g

      pub covers-in : (s : ℕ) → covers G b s ≡ in_part t.head (suc (segments G (len b))) s
      unfolding covers
      covers-in s =
          let e : suc t.head + segments G (len b) ≡ t.head + suc (segments G (len b)) = omega arith in
          rw (base-div, leb-suc-suc t.head s, e)

      pub covers-true : (s : ℕ) → covers G b s ≡ true → (t.head ≤ s) × (s < t.head + suc (segments G (len b)))
      covers-true s e = in-facts t.head (t.head + suc (segments G (len b))) s (sym (covers-in s) ∙ e)

      -- byte by byte: they are its place
      pub covers-byte : (q : ℕ) → covers G b (q / G) ≡ in_part (b.base - G) (place_length G (len b)) q
      unfolding place_length
      covers-byte q =
          same_test (covers G b (q / G)) (in_part (b.base - G) (G + n * G) q)
          (λ e.
          let u = covers-true (q / G) e in
          let x = (le-div_iff_mul-le {k = G} {x = t.head} {y = q} g).0 u.0 in
          let y = (div-lt_iff_lt-mul {k = G} {x = q} {y = t.head + suc n} g).0 u.1 in
          in-true (b.base - G) (b.base - G + (G + n * G)) q (omega arith) (omega arith))
          (λ e.
          let u = in-facts (b.base - G) (b.base - G + (G + n * G)) q e in
          covers-in (q / G)
          ∙ in-true t.head (t.head + suc n) (q / G)
          ((le-div_iff_mul-le {k = G} {x = t.head} {y = q} g).1 (omega arith))
          ((div-lt_iff_lt-mul {k = G} {x = q} {y = t.head + suc n} g).1 (omega arith)))
        where
          n : ℕ
          n = segments G (len b)

      pub covers-holds : (p : ℕ) → contains p b ≡ true → covers G b (p / G) ≡ true
      unfolding place_length
      covers-holds p e =
          let h = contains-true p b e in
          covers-byte p
          ∙ in-true (b.base - G) (b.base - G + (G + segments G (len b) * G)) p (omega arith) (omega (arith, segments-up G g (len b)))

    -- the segments that a block covers lie in its footprint
    pub heap-foot : InFoot (heap_rules G 0 size) (covers G) (λ s. s * G)
    heap-foot b s l e =
        let t = listed-stands b 0 l in
        let u = covers-true b t s e in
        omega (arith, mul-le-mul_right G u.0, mul-le-mul_right G u.1)

    -- footprints meet where they share a segment
    pub meets-in : (b l : ℕ) (c : Block) (t : Stands G size b l) (u : Stands G size c.base (len c))
        → meets (heap_rules G 0 size) b l c ≡ (ltb t.head (u.head + suc (segments G (len c))) && ltb u.head (t.head + suc (segments G l)))
    unfolding meets
    meets-in b l c t u = rw (side b c.base t.head u.head (segments G (len c)) t.start u.start, side c.base b u.head t.head (segments G l) u.start t.start)
      where
        side : (x y k j n : ℕ) → x ≡ suc k * G → y ≡ suc j * G → ltb (x - G) (y + n * G) ≡ ltb k (j + suc n)
        side x y k j n p q =
            same_test (ltb (x - G) (y + n * G)) (ltb k (j + suc n))
            (λ e. let h = ltb-true (x - G) (y + n * G) e in lt-ltb k (j + suc n) (lt_of_mul-lt-mul_right G {m = k} {n = j + suc n} (omega arith)))
            (λ e. let h = ltb-true k (j + suc n) e in lt-ltb (x - G) (y + n * G) (omega (arith, mul-le-mul_right G h)))

-- the segment of a position of the area lies in the area
pub segment-in : {W G size : ℕ} → Sizes W G size → (p : ℕ) → p < size → p / G * G + G ≤ size
segment-in {W} {G} {size} z p h =
    let e : size / G * G ≡ size = aligned-eq (some-segment z) size z.whole in
    let u : p / G < size / G = lt_of_mul-lt-mul_right G {m = p / G} {n = size / G} (omega (arith, div-add-mod' p G)) in
    omega (arith, mul-le-mul_right G u)
