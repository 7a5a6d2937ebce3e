-- A turn of the audit's walk, at numbers of W bytes and segments of two numbers: what is left comes to the same, beside what was counted.
-- Assumes nothing.
use mathlib.Core.Path.{◌≡◌, refl, sym, ◌∙◌, subst}
use mathlib.Core.Bool.{Bool, true, false, cond, ◌&&◌}
use mathlib.Core.List.{List, [], ◌∷◌, ◌++◌}
use mathlib.Core.Option.{some}
use Prim.Native.Nat.{ℕ, zero, suc, ◌+◌, ◌*◌, ◌-◌, ◌/◌, ◌^◌, ◌≤◌, ◌<◌, min}
use native.Mathlib.Omega.{arith}
use native.Mathlib.Nat.{add-zero, zero-add, pow-le-pow_right, le-div_iff_mul-le, div-le_of_le-mul, div-eq_of_lt}
use native.Mathlib.Numerals.{add-one}
use lib.ListN.{length, length-append}
use lib.Dec.{leb}
use lib.Count as count
use borrow.Author.Tests.{le-leb, lt-leb, eq-eqb}
use Rattle.std.specs.Prelude.{Option, Some, None}
use Rattle.number.specs.Little.{word}
use Rattle.number.specs.Bits.{ones}
use Rattle.number.specs.Parts.{at}
use Rattle.number.proofs.TestLaws.{Test, is_true, is_false, test}
use Rattle.plain.specs.Blocks.{total, live, written}
use Rattle.plain.specs.Areas.{heap_rules}
use Rattle.plain.specs.Reading.{tally}
use Rattle.plain.specs.Found.{Found, bad, got, goes_on, begins, totals}
use Rattle.plain.proofs.ListLaws.{all-count, none-count}
use Rattle.heap_layout.specs.Image.{free, header}
use Rattle.heap_layout.specs.Walk.{matches, heap_walk}
use Rattle.heap_layout.proofs.WalkLaws.{length-marks}
use Rattle.heap_audit_laws.specs.declared.Walk.{Walk}
use Rattle.heap_audit_laws.specs.Turn.{beside, rest, ones_at, Kept, Stands, Turned}
use Rattle.heap_audit_laws.proofs.BitsLaws.{ones-word, marks-ones}
use Rattle.heap_audit_laws.proofs.WalkLaws.{walk-free, walk-low, walk-past, walk-opens, walk-number, walk-bits, walk-goes, walk-idle}

-- ---- totals

ones-append : (a b : List Bool) → ones (a ++ b) ≡ ones a + ones b
unfolding ones
ones-append [] b = sym (zero-add (ones b))
ones-append (x ∷ xs) b = omega (arith, ones-append xs b)

beside-begins : (b l m base : ℕ) (t : Bool) (f : Found) → beside b l m (begins base t f) ≡ beside (b + 1) l m f
unfolding beside total ones
beside-begins b l m base t bad = refl
beside-begins b l m base t (got ms bs) =
    let x : b + suc (length bs) ≡ b + 1 + length bs = omega arith in
    rw (x, zero-add (length ms + live bs), zero-add (ones ms + written bs))

beside-goes : (b l m : ℕ) (ms : List Bool) (f : Found) → beside b l m (goes_on ms f) ≡ beside b (l + length ms) (m + ones ms) f
unfolding beside
beside-goes b l m ms bad = refl
beside-goes b l m ms (got ns bs) =
    let x : l + (length ms + length ns + live bs) ≡ l + length ms + (length ns + live bs) = omega arith in
    let y : m + (ones ms + ones ns + written bs) ≡ m + ones ms + (ones ns + written bs) = omega arith in
    rw (length-append ms ns, ones-append ms ns, x, y)

-- ---- a turn

module _ (W G : ℕ) (wide : 4 ≤ W) (two : G ≡ W + W) {h : List ℕ} {s : ℕ} {w : Walk} {low high : ℕ} (t : Stands W G h s w low high) where
  abbrev left : ℕ
  left = length h / G - suc s

  one_less : length h / G - s ≡ suc left
  one_less = omega (arith, t.inside)

  -- the segment lies in the area
  ends-in : suc s * G ≤ length h
  ends-in = (le-div_iff_mul-le {k = G} {x = suc s} {y = length h} (omega arith)).0 t.inside

  module _ (z : w.len ≡ 0) where
    none-goes : w.d ≡ 0
    none-goes = omega (arith, t.kept.offset)

    pub turn_low : (low ≡ 0 → ⊥) → Turned W G h s w None
    unfolding rest beside
    turn_low a = rw (one_less, z, none-goes, walk-low W G wide two (length h) (at h) t.bytes left s low high t.lows t.highs a)

    pub turn-free : low ≡ 0 → high ≡ 0 → Turned W G h s w (Some w)
    unfolding rest
    turn-free a b = (
      rw (one_less, z, none-goes, walk-free W G wide two (length h) (at h) t.bytes left s low high t.lows t.highs a b, add-one s),
      omega (arith, ends-in),
    )

    pub turn-past : low ≡ 0 → (high ≡ 0 → ⊥) → length h < s * G + G + high → Turned W G h s w None
    unfolding rest beside
    turn-past a b c =
        rw (one_less, z, none-goes, walk-past W G wide two (length h) (at h) t.bytes left s low high t.lows t.highs a b (omega arith))

    pub turn-opens : low ≡ 0 → (high ≡ 0 → ⊥) → s * G + G + high ≤ length h
        → Turned W G h s w (Some (record { len = high; d = 0; blocks = w.blocks + 1; live = w.live; written = w.written }))
    unfolding rest
    turn-opens a b c = (
      rw (one_less, z, none-goes, walk-opens W G wide two (length h) (at h) t.bytes left s low high t.lows t.highs a b (omega arith), add-one s)
          (beside-begins w.blocks w.live w.written (suc s * G) false (heap_walk W G (length h) (at h) left (suc s) high 0)),
      omega arith,
    )

  module _ (z : w.len ≡ 0 → ⊥) where
    small-offset : w.d + 1 < 256 ^ W
    small-offset = omega (arith, t.kept, t.small, ends-in, pow-le-pow_right {n = 256} (omega arith) wide)

    pub turn-number : (low ≡ w.d + 1 → ⊥) → Turned W G h s w None
    unfolding rest beside
    turn-number a =
        rw (one_less, walk-number W G wide two (length h) (at h) t.bytes left s low high t.lows t.highs w.len w.d z small-offset a)

    -- k: how many bytes of the block the segment has
    module _ {k : ℕ} (e : k ≡ min G (w.len - w.d)) (a : low ≡ w.d + 1) where
      pub turn-bits : (high / 2 ^ k ≡ 0 → ⊥) → Turned W G h s w None
      unfolding rest beside
      turn-bits b =
          rw (one_less, walk-bits W G wide two (length h) (at h) t.bytes left s low high t.lows t.highs w.len w.d z small-offset a (rw e at b))

      -- n: how many bytes the written bits take; m: the ones in them
      module _ (b : high / 2 ^ k ≡ 0) (n : ℕ) (u : G ≤ 8 * n) (v : n ≤ W) {m : ℕ} (i : m ≡ ones_at (at h) (s * G + W) n) (j : m ≤ G) where
        goes : rest W G h s w
            ≡ beside w.blocks (w.live + k) (w.written + m)
            (heap_walk W G (length h) (at h) left (suc s) (cond (leb w.len (w.d + G)) 0 w.len) (w.d + G))
        unfolding rest
        goes =
            let b' : high / 2 ^ min G (w.len - w.d) ≡ 0 = rw e at b in
            rw (
              one_less,
              walk-goes W G wide two (length h) (at h) t.bytes left s low high t.lows t.highs w.len w.d z small-offset a b',
              beside-goes,
              length-marks W G (length h) (at h) s (min G (w.len - w.d)),
              i,
              marks-ones W G (length h) wide two (at h) t.bytes s high t.highs (min G (w.len - w.d)) (omega arith) b' n u v,
              e,
            )

        pub turn_last : w.len ≤ w.d + G
            → Turned W G h s w (Some (record { len = 0; d = 0; blocks = w.blocks; live = w.live + k; written = w.written + m }))
        unfolding rest
        turn_last c = (
          goes ∙ rw (le-leb w.len (w.d + G) c, walk-idle W G (length h) (at h) left (suc s) (w.d + G), add-one s),
          omega (arith, ends-in),
        )

        pub turn_more : w.d + G < w.len
            → Turned W G h s w (Some (record { len = w.len; d = w.d + G; blocks = w.blocks; live = w.live + k; written = w.written + m }))
        unfolding rest
        turn_more c = (
          goes ∙ rw (lt-leb w.len (w.d + G) c, add-one s),
          omega arith,
        )

    -- a whole segment that is the block's own, where the block goes on after it
    pub turn-whole : low ≡ w.d + 1 → high < 2 ^ G → w.d + G < w.len
        → Turned W G h s w
        (Some (record { len = w.len; d = w.d + G; blocks = w.blocks; live = w.live + G; written = w.written + count.ones high }))
    turn-whole a b c =
        turn_more {k = G} (omega arith) a (div-eq_of_lt b) W (omega arith) (omega arith) {m = count.ones high}
        (rw t.highs (ones-word (at h) t.bytes W (s * G + W))) (count.ones-le G high b) c

-- ---- the start and the end of the walk

begun-totals : (G size base : ℕ) (t : Bool) (f : Found) → totals (heap_rules G 0 size) (begins base t f) ≡ beside 0 0 0 (begins base t f)
unfolding beside total ones
begun-totals G size base t bad = refl
begun-totals G size base t (got ms bs) =
    let x : 0 + suc (length bs) ≡ 1 + length bs = omega arith in
    let y : 0 + (0 + (length ms + live bs)) ≡ length ms + live bs = omega arith in
    let z : 0 + (0 + (ones ms + written bs)) ≡ ones ms + written bs = omega arith in
    rw (all-count (λ a. true) (λ a. refl) bs, none-count (λ a. false) (λ a. refl) bs, x, y, z)

module _ (W G : ℕ) where
  walk-totals : (size : ℕ) (f : ℕ → ℕ) (n s : ℕ)
      → totals (heap_rules G 0 size) (heap_walk W G size f n s 0 0) ≡ beside 0 0 0 (heap_walk W G size f n s 0 0)
  unfolding heap_walk beside total ones
  walk-totals size f zero s = refl
  walk-totals size f (suc n) s =
      go (test (matches W G size f s free)) (test (leb 1 H && leb (suc s * G + H) size && matches W G size f s (header H))) (walk-totals size f n (suc s))
    where
      H : ℕ
      H = word f (s * G + W) W

      go : Test (matches W G size f s free) → Test (leb 1 H && leb (suc s * G + H) size && matches W G size f s (header H))
          → totals (heap_rules G 0 size) (heap_walk W G size f n (suc s) 0 0) ≡ beside 0 0 0 (heap_walk W G size f n (suc s) 0 0)
          → totals (heap_rules G 0 size) (heap_walk W G size f (suc n) s 0 0) ≡ beside 0 0 0 (heap_walk W G size f (suc n) s 0 0)
      go (is_true a) b ih = rw a ih
      go (is_false a) (is_true b) ih = rw (a, b) (begun-totals G size (suc s * G) false (heap_walk W G size f n (suc s) H 0))
      go (is_false a) (is_false b) ih = rw (a, b)

  -- at the start nothing is counted
  pub rest-start : (h : List ℕ)
      → totals (heap_rules G 0 (length h)) (heap_walk W G (length h) (at h) (length h / G) 0 0 0)
      ≡ rest W G h 0 (record { len = 0; d = 0; blocks = 0; live = 0; written = 0 })
  unfolding rest
  rest-start h = let e : length h / G - 0 ≡ length h / G = omega arith in rw e (walk-totals (length h) (at h) (length h / G) 0)

  -- at the end no block goes on, and all is counted
  pub rest_end : (h : List ℕ) (s : ℕ) (w : Walk) → length h ≤ s * G → Kept G (length h) s w
      → rest W G h s w ≡ some (tally w.blocks 0 w.live w.written)
  unfolding rest heap_walk beside total ones
  rest_end h s w a k =
      let e : length h / G - s ≡ 0 = omega (arith, div-le_of_le-mul G {m = length h} {n = s} (omega arith)) in
      let z : w.len ≡ 0 = omega (arith, k) in
      rw (e, eq-eqb w.len 0 z, add-zero w.blocks, add-zero w.live, add-zero w.written)

  pub turned : (h : List ℕ) (s : ℕ) (w : Walk) (r m : Option Walk) → Turned W G h s w r → r ≡ m → Turned W G h s w m
  turned h s w r m t e = subst (Turned W G h s w) e t
