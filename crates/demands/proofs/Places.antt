-- Request S-6, proved: see specs/Places.antt for what each says. Assumes nothing.
use mathlib.Core.Path.{◌≡◌, refl, sym, ap, ◌∙◌, subst}
use mathlib.Core.Logic.{◌≢◌}
use mathlib.Core.Bool.{true, false}
use mathlib.Core.List.{List}
use mathlib.Core.Option.{Option, none, some}
use Prim.Native.Nat.{ℕ, suc, ◌+◌, ◌*◌, ◌-◌, ◌/◌, ◌%◌, ◌≤◌, ◌<◌, min}
use native.Mathlib.Omega.{arith}
use native.Mathlib.Nat.{div-add-mod', mod-lt, mul-le-mul_right, mul-mod_left, le_of_mul-le-mul_right, le-div_iff_mul-le, div-lt_iff_lt-mul}
use lib.ListN.{length, take}
use lib.Dec.{ltb, eqb}
use borrow.Author.Tests.{le-leb, lt-ltb, ltb-true, eq-eqb, ne_eqb, eqb-false, not-false}
use Rattle.number.specs.Parts.{at}
use Rattle.number.proofs.TestLaws.{and-true, not-both, false_of}
use Rattle.number.proofs.PartLaws.{zeros-at, zeros-all}
use Rattle.map.specs.FormMap.{FormMap}
use Rattle.map.specs.Map.{good_map}
use Rattle.map.proofs.MapLaws.{good-true, true-within, segment-least}
use Rattle.types.specs.declared.Beginning.{Beginning}
use Rattle.types.specs.declared.Beginning.TheVariants.{Unwritten, Written}
use Rattle.plain.specs.Areas.{segments, place_length, map_rules}
use Rattle.plain.specs.Block.{starts_literal}
use Rattle.plain.specs.Gaps.{Gap, best, Among}
use Rattle.plain.specs.Call.{begin, record_block, record_written, place, Answer, answer, number}
use Rattle.plain.specs.Placing.{none_fits}
use Rattle.plain.proofs.BestLaws.{best-some, best_none, take-among, take_whole, take_more, take-ascending}
use Rattle.heap_layout.specs.Ops.{heap_vacant}
use Rattle.heap_layout.proofs.SegmentLaws.{aligned-eq}
use Rattle.shadows.specs.Shadows.{Shadows, lengths_fit, shadow_ops}
use Rattle.shadows.proofs.ShadowLaws.{shadow-images}
use Rattle.monitor_base.specs.Calls.{call}
use Rattle.demands.specs.Gaps.{heap_segments, is_zero, begins_run, gaps_below, gap_size, is_looked, place_bytes}
use Rattle.demands.specs.Addresses.{in_heap}
use Rattle.demands.specs.Demand1.{number_of}
use Rattle.demands.specs.Places.{ZeroFrom, IsGap, gaps_at, gap_from, Fits, GapsExactly, PlaceChooses, surplus_of, LargerBudget, PlacedRecorded, OnItsOwnImage}
use Rattle.demands.proofs.GapRuns.{Longest, longest-begins, begins-longest}
use Rattle.demands.proofs.GapLists.{looked-count, ascending}
use Rattle.demands.proofs.GapWords.{gap_at_segment, gaps-words, looked-among, among-looked, holds-need, need-holds}
use Rattle.demands.proofs.Numbers.{number-first, none-holds}

-- ---- a gap, by its bytes and by its segments

module _ (m : FormMap) (s : Shadows) where
  abbrev N : ℕ
  N = heap_segments m

  whole : 0 < m.segment
  whole = omega (arith, segment-least m)

  zero-bytes : (i : ℕ) → is_zero m s i ≡ true → ZeroFrom s (i * m.segment) m.segment
  zero-bytes i e p x y = let q : i * m.segment + (p - i * m.segment) ≡ p = omega arith in (rw q at (zeros-at (at s.0) (i * m.segment) m.segment (p - i * m.segment) e (omega arith)))

  bytes-zero : (i : ℕ) → ZeroFrom s (i * m.segment) m.segment → is_zero m s i ≡ true
  bytes-zero i h = zeros-all (at s.0) (i * m.segment) m.segment (λ q l. h (i * m.segment + q) (omega arith) (omega arith))

  pub gap-longest : (i n : ℕ) → IsGap m s i n → Longest (is_zero m s) N i n
  gap-longest i n G =
      record {
        some = G.some;
        inside = (le-div_iff_mul-le {k = m.segment} {x = i + n} {y = m.heap_size} whole).1 (omega (arith, G.inside));
        all = λ j x y. bytes-zero j (λ p u v. G.zero p (omega (arith, mul-le-mul_right m.segment x)) (omega (arith, mul-le-mul_right m.segment y)));
        before = λ j e. false_of (is_zero m s j) (λ t. G.before j e (zero-bytes j t));
        after = λ l. false_of (is_zero m s (i + n)) (λ t.
            let q : (i + n) * m.segment ≡ i * m.segment + n * m.segment = omega arith in G.after (omega (arith, (le-div_iff_mul-le {k = m.segment} {x = suc (i + n)} {y = m.heap_size} whole).0 l)) (rw q at (zero-bytes (i + n) t)));
      }

  pub longest-gap : (i n : ℕ) → Longest (is_zero m s) N i n → IsGap m s i n
  longest-gap i n R =
      record {
        some = R.some;
        inside = omega (arith, (le-div_iff_mul-le {k = m.segment} {x = i + n} {y = m.heap_size} whole).0 R.inside);
        zero = λ p x y.
            let lo = (le-div_iff_mul-le {k = m.segment} {x = i} {y = p} whole).1 x in
            let hi = (div-lt_iff_lt-mul {k = m.segment} {x = p} {y = i + n} whole).1 (omega arith) in
            zero-bytes (p / m.segment) (R.all (p / m.segment) lo hi) p (omega (arith, div-add-mod' p m.segment)) (omega (arith, div-add-mod' p m.segment, mod-lt p whole));
        before = λ j e h. not-both (is_zero m s j) (bytes-zero j h) (R.before j e);
        after = λ l h.
            let q : i * m.segment + n * m.segment ≡ (i + n) * m.segment = omega arith in not-both (is_zero m s (i + n)) (bytes-zero (i + n) (rw q at h)) (R.after ((le-div_iff_mul-le {k = m.segment} {x = suc (i + n)} {y = m.heap_size} whole).1 (omega arith)));
      }

  -- a gap that is looked at
  pub gap-looked : (k i n : ℕ) → IsGap m s i n → gaps_below m s i < k → (is_looked m s k i ≡ true) × (gap_size m s i ≡ n) × (i < N)
  gap-looked k i n G l =
      let b = longest-begins (is_zero m s) N i n (gap-longest i n G) in
      (rw (b.0, lt-ltb (gaps_below m s i) k l), b.1, b.2)

  pub looked-gap : (k i : ℕ) → i < N → is_looked m s k i ≡ true → IsGap m s i (gap_size m s i) × (gaps_below m s i < k)
  looked-gap k i l e =
      let u = and-true (begins_run (is_zero m s) i) (ltb (gaps_below m s i) k) e in
      (longest-gap i (gap_size m s i) (begins-longest (is_zero m s) N i u.0 l), ltb-true (gaps_below m s i) k u.1)

-- ---- the gaps of the definition

pub gaps_exactly : (m : FormMap) → GapsExactly m
gaps_exactly m s = (
  λ i n G.
      let r = gap-looked m s (suc (gaps_below m s i)) i n G (omega arith) in
      subst (λ (x : ℕ). Among (gap_from m i x) (gaps_at m s)) r.1
      (take-among (suc (gaps_below m s i)) (gaps_at m s) (gap_at_segment m s i) (looked-among m s (suc (gaps_below m s i)) i r.2 r.0)),
  λ g a.
      let r = among-looked m s (length (gaps_at m s)) g (subst (Among g) (sym (take_whole (gaps_at m s))) a) in
      (r.0, gap_size m s r.0, (looked-gap m s (length (gaps_at m s)) r.0 r.1 r.2).0, r.3),
  rw (gaps-words m s) (ascending m.segment (is_zero m s) m.heap_start (heap_segments m) (whole m s)),
)

-- ---- an accepted place

module _ (m : FormMap) (s : Shadows) (l k : ℕ) where
  abbrev looked : List Gap
  looked = take k ((shadow_ops m).gaps s)

  pub record Answered (g : Gap) : Type 0 where
    pub good : good_map m ≡ true
    pub fit : lengths_fit m s ≡ true
    pub bytes : l ≢ 0
    pub picked : best (place_length m.segment l) looked ≡ some g
    pub says : call m (place l k) s ≡ (s, answer 0 (g.start + m.segment) (length looked) (g.bytes - place_length m.segment l) 0)

  answers : good_map m ≡ true → lengths_fit m s ≡ true → l ≢ 0 → (g : Gap) → best (place_length m.segment l) looked ≡ some g → Answered g
  unfolding call
  answers ok fit n g e = record { good = ok; fit = fit; bytes = n; picked = e; says = rw (ok, fit, ne_eqb l 0 n, e) }

  pub accepted : number_of m (place l k) s ≡ 0 → (g : Gap) × Answered g
  accepted e =
      let (one, (two, (three, (fourteen, rest)))) = none-holds m (place l k) s refl e in
      go (best (place_length m.segment l) looked) refl (not-false (good_map m) one) (not-false (lengths_fit m s) two) (eqb-false l 0 three) fourteen
    where
      go : (o : Option Gap) → best (place_length m.segment l) looked ≡ o → good_map m ≡ true → lengths_fit m s ≡ true → l ≢ 0 → none_fits m.segment l k ((shadow_ops m).gaps s) ≡ false → (g : Gap) × Answered g
      go none q ok fit n f = absurd (not-both true refl (rw q at f))
      go (some g) q ok fit n f = (g, answers ok fit n g q)

  -- the gap that is chosen, by its first segment and its size
  pub record Picked (i n : ℕ) : Type 0 where
    pub fits : Fits m s l k i n
    pub least : (j p : ℕ) → Fits m s l k j p → (n ≤ p) × (n ≡ p → i ≤ j)
    pub says : call m (place l k) s ≡ (s, answer 0 (m.heap_start + i * m.segment + m.segment) (min k (gaps_below m s (heap_segments m))) (n * m.segment - place_bytes m l) 0)

  pub fits-among : (j p : ℕ) → Fits m s l k j p → Among (gap_from m j p) looked
  fits-among j p F =
      let r = gap-looked m s k j p F.gap F.looked in
      subst (λ (x : ℕ). Among (gap_from m j x) looked) r.1 (looked-among m s k j r.2 r.0)

  pub picked : (g : Gap) → Answered g → (i : ℕ) × (n : ℕ) × Picked i n
  unfolding place_length
  picked g A =
      let C = best-some (place_length m.segment l) looked g A.picked in
      let r = among-looked m s k g C.among in
      let h = looked-gap m s k r.0 r.1 r.2 in
      let n = gap_size m s r.0 in
      let f : place_length m.segment l ≤ n * m.segment = subst (λ (x : Gap). place_length m.segment l ≤ x.bytes) r.3 C.fits in (
        r.0,
        n,
        record {
          fits = record { gap = h.0; looked = h.1; holds = need-holds m l n f };
          least = λ j p F.
              let a = fits-among j p F in
              let w = holds-need m l p F.holds in
              let b : n * m.segment ≤ p * m.segment = subst (λ (x : Gap). x.bytes ≤ p * m.segment) r.3 (C.least (gap_from m j p) a w) in (
                le_of_mul-le-mul_right {m = n} {n = p} {k = m.segment} b (whole m s),
                λ e.
                    let u : g.bytes ≡ p * m.segment = ap (λ (x : Gap). x.bytes) r.3 ∙ ap (λ (x : ℕ). x * m.segment) e in
                    let v = C.lowest (take-ascending k ((shadow_ops m).gaps s) (gaps_exactly m s).2) (gap_from m j p) a w u in
                    let z : g.start ≡ m.heap_start + r.0 * m.segment = ap (λ (x : Gap). x.start) r.3 in
                    le_of_mul-le-mul_right {m = r.0} {n = j} {k = m.segment} (omega arith) (whole m s),
              );
          says =
              A.says
              ∙ ap (λ (x : Gap). (s, answer 0 (x.start + m.segment) (length looked) (x.bytes - place_length m.segment l) 0)) r.3
              ∙ ap (λ (c : ℕ). (s, answer 0 (m.heap_start + r.0 * m.segment + m.segment) c (n * m.segment - place_bytes m l) 0)) count;
        },
      )
    where
      count : length looked ≡ min k (gaps_below m s (heap_segments m))
      count = rw (gaps-words m s) (looked-count m.segment (is_zero m s) m.heap_start (heap_segments m) k)

pub place_chooses : (m : FormMap) → PlaceChooses m
place_chooses m s l k e =
    let a = accepted m s l k e in
    let r = picked m s l k a.0 a.1 in
    (r.0, r.1, r.2.fits, r.2.least, r.2.says)

-- ---- a larger budget

pub larger_budget : (m : FormMap) → LargerBudget m
larger_budget m s l k k' h e =
    let a = accepted m s l k e in
    let A = a.1 in
    let C = best-some (place_length m.segment l) (looked m s l k) a.0 A.picked in
    let more = take_more k k' ((shadow_ops m).gaps s) a.0 h C.among in
    go A more C.fits (best (place_length m.segment l) (looked m s l k')) refl
  where
    go : {g : Gap} → Answered m s l k g → Among g (looked m s l k') → place_length m.segment l ≤ g.bytes → (o : Option Gap) → best (place_length m.segment l) (looked m s l k') ≡ o
        → (number_of m (place l k') s ≡ 0) × (surplus_of (call m (place l k') s).1 ≤ surplus_of (call m (place l k) s).1)
    go {g} A more f none q = absurd (best_none (place_length m.segment l) (looked m s l k') q g more f)
    go {g} A more f (some d) q =
        let B = answers m s l k' A.good A.fit A.bytes d q in
        let D = best-some (place_length m.segment l) (looked m s l k') d q in (
          ap (λ (r : Shadows × Answer). number r.1) B.says,
          rw (ap (λ (r : Shadows × Answer). surplus_of r.1) B.says, ap (λ (r : Shadows × Answer). surplus_of r.1) A.says) (omega (arith, D.least g more f)),
        )

-- ---- record of the base and length that place answers

module _ (m : FormMap) (s : Shadows) (l k i n : ℕ) (ok : good_map m ≡ true) (fit : lengths_fit m s ≡ true) (some : l ≢ 0) (F : Fits m s l k i n) where
  abbrev base : ℕ
  base = m.heap_start + i * m.segment + m.segment

  in-heap : in_heap m base ≡ true
  in-heap = true-within m.heap_start m.heap_size base (omega arith) (omega (arith, F.holds, F.gap.inside))

  in_place : (map_rules m).fits base l ≡ true
  in_place =
      rw (
        in-heap,
        le-leb (m.heap_start + m.segment) base (omega arith),
        le-leb (base + l) (m.heap_start + m.heap_size) (omega (arith, F.holds, F.gap.inside)),
      )

  aligned : eqb (base % m.segment) 0 ≡ true
  aligned =
      let G : ℕ = m.segment in
      let g : 0 < G = omega (arith, segment-least m) in
      let e = aligned-eq g m.heap_start (good-true m ok).heap_start_whole in
      let q : base ≡ (m.heap_start / G + i + 1) * G = omega arith in
      eq-eqb (base % G) 0 (ap (λ (x : ℕ). x % G) q ∙ mul-mod_left (m.heap_start / G + i + 1) G)

  all-zero : (shadow_ops m).vacant s base l ≡ true
  unfolding heap_vacant place_length
  all-zero =
      let e : base - m.heap_start - m.segment ≡ i * m.segment = omega arith in
      let need = holds-need m l n F.holds in
      rw (in-heap, e)
      (zeros-all (at s.0) (i * m.segment) (m.segment + segments m.segment l * m.segment) (λ q h. F.gap.zero (i * m.segment + q) (omega arith) (omega (arith, need))))

  accepts : (how : Beginning) → starts_literal how ≡ false → number_of m (begin how base l) s ≡ 0
  accepts how e = number-first m (begin how base l) s ∙ rw (ok, fit, ne_eqb l 0 some, e, in_place, all-zero, in-heap, aligned)

pub placed_recorded : (m : FormMap) → PlacedRecorded m
placed_recorded m s l k b c u e =
    let a = accepted m s l k (ap number e) in
    let A = a.1 in
    let r = picked m s l k a.0 A in
    let i = r.0 in
    let q : m.heap_start + i * m.segment + m.segment ≡ b = ap first (sym (ap (λ (x : Shadows × Answer). x.1) r.2.says) ∙ e) in
    let F = r.2.fits in (
      subst (λ (x : ℕ). number_of m (record_block x l) s ≡ 0) q (accepts m s l k i r.1 A.good A.fit A.bytes F Unwritten refl),
      subst (λ (x : ℕ). number_of m (record_written x l) s ≡ 0) q (accepts m s l k i r.1 A.good A.fit A.bytes F Written refl),
    )
  where
    first : Answer → ℕ
    first (answer n x y z w) = x

-- ---- the plain list

pub on_its_own_image : (m : FormMap) → OnItsOwnImage m
on_its_own_image m ok bs P = sym ((shadow-images m ok).image_gaps bs P)
