-- What a good map and the area of an address say in facts, and back. Assumes nothing.
use Rattle.std.proofs.Common.{◌≡◌, ℕ, zero, suc, ◌+◌, ◌-◌, ◌*◌, ◌/◌, ◌%◌, ◌^◌, ◌<◌, ◌≤◌, Bool, true, false, ◌&&◌, ◌||◌, eqb, leb, sym, refl, ◌∙◌, div-add-mod', arith, ltb-true, eq-eqb, eqb-true, le-leb, leb-false, leb-true}
use native.Mathlib.Nat.{div-eq_of_lt}
use native.Mathlib.Omega.{by_contra}
use Rattle.number.proofs.TestLaws.{and-true, or_case, in-true, in-below, same_test, false_of, not-both}
use Rattle.map.specs.Map.{good_area, apart, good_map, within, area_of}
use Rattle.map.specs.FormMap.{FormMap, areas}
use Rattle.map.specs.declared.Area.TheVariants.{Outside}

-- ---- the sizes of a form

pub segment-least : (m : FormMap) → 8 ≤ m.segment
segment-least m = omega (arith, m.wide, m.two)

-- a number holds whatever an area may be long
pub number-holds : (m : FormMap) (n : ℕ) → n ≤ 131072 → n < 256 ^ m.width
number-holds m n h = go m.width m.wide
  where
    pos : (w : ℕ) → 1 ≤ 256 ^ w
    pos zero = omega arith
    pos (suc w) = let e : 256 ^ suc w ≡ 256 * 256 ^ w = omega arith in omega (arith, pos w)

    go : (w : ℕ) → 4 ≤ w → n < 256 ^ w
    go (suc (suc (suc (suc w)))) k =
        let e : 256 ^ suc (suc (suc (suc w))) ≡ 4294967296 * 256 ^ w = omega arith in
        omega (arith, pos w)
    go zero k = absurd (omega arith)
    go (suc zero) k = absurd (omega arith)
    go (suc (suc zero)) k = absurd (omega arith)
    go (suc (suc (suc zero))) k = absurd (omega arith)

-- the rules of a good map, as facts
pub record Good (m : FormMap) : Type 0 where
  pub heap_start_whole : m.heap_start % m.segment ≡ 0
  pub heap_size_whole : m.heap_size % m.segment ≡ 0
  pub stack_start8 : m.stack_start % 8 ≡ 0
  pub stack_size8 : m.stack_size % 8 ≡ 0
  pub heap_least : m.segment + m.segment ≤ m.heap_size
  pub heap_most : m.heap_size ≤ 131072
  pub stack_least : 16 ≤ m.stack_size
  pub stack_most : m.stack_size ≤ 65536
  pub heap_from : m.segment ≤ m.heap_start
  pub stack_from : 8 ≤ m.stack_start
  pub heap_end : m.heap_start + m.heap_size ≤ 4294967295
  pub stack_end : m.stack_start + m.stack_size ≤ 4294967295
  pub no_share : m.heap_start < m.stack_start + m.stack_size → m.stack_start < m.heap_start + m.heap_size → ⊥

pub within-true : (start size a : ℕ) → within start size a ≡ true → (start ≤ a) × (a < start + size)
within-true start size a e =
    let h = and-true _ _ e in
    (leb-true _ _ h.0, ltb-true _ _ h.1)

pub true-within : (start size a : ℕ) → start ≤ a → a < start + size → within start size a ≡ true
true-within start size a = in-true start (start + size) a

-- r is how far an address lies above an area's start, and more than any size where it lies below
abbrev pub Above : (start a r : ℕ) → Type 0
Above start a r = (start ≤ a → r ≡ a - start) × (a < start → 4294967296 ≤ r)

pub above_within : (start size a r : ℕ) → size < 4294967296 → Above start a r → r < size → (within start size a ≡ true) × (r ≡ a - start)
above_within start size a r b (f, g) l =
    let le : start ≤ a = by_contra _ _ (λ x. omega (arith, g (omega (arith, x)))) in
    (true-within start size a le (omega (arith, f le)), f le)

pub above-outside : (start size a r : ℕ) → Above start a r → size ≤ r → within start size a ≡ false
above-outside start size a r (f, g) l =
    false_of (within start size a) (λ e. let h = within-true start size a e in omega (arith, f h.0, h.1))

-- ---- one area's rules, and two areas

abbrev Rules : (unit start size most : ℕ) → Type 0
Rules u s z t = (u ≤ s) × (s % u ≡ 0) × (z % u ≡ 0) × (u + u ≤ z) × (z ≤ t) × (s + z ≤ 4294967295)

area-true : (u s z t : ℕ) → good_area u s z t ≡ true → Rules u s z t
unfolding good_area
area-true u s z t e =
    let a = and-true _ _ e in
    let b = and-true _ _ a.0 in
    let c = and-true _ _ b.0 in
    let d = and-true _ _ c.0 in
    let f = and-true _ _ d.0 in (
      leb-true _ _ f.0,
      eqb-true _ _ f.1,
      eqb-true _ _ d.1,
      leb-true _ _ c.1,
      leb-true _ _ b.1,
      leb-true _ _ a.1,
    )

true-area : (u s z t : ℕ) → Rules u s z t → good_area u s z t ≡ true
unfolding good_area
true-area u s z t (a, b, c, d, e, f) =
    rw (le-leb _ _ a, eq-eqb _ _ b, eq-eqb _ _ c, le-leb _ _ d, le-leb _ _ e, le-leb _ _ f)

apart-true : (s z s' z' : ℕ) → apart s z s' z' ≡ true → s < s' + z' → s' < s + z → ⊥
unfolding apart
apart-true s z s' z' e x y =
    or_case (leb (s + z) s') (leb (s' + z') s) e (λ p. omega (arith, leb-true)) (λ p. omega (arith, leb-true))

or-true : (a b : Bool) → (a ≡ false → b ≡ true) → (a || b) ≡ true
or-true true b f = refl
or-true false b f = f refl

true-apart : (s z s' z' : ℕ) → (s < s' + z' → s' < s + z → ⊥) → apart s z s' z' ≡ true
unfolding apart
true-apart s z s' z' f =
    or-true _ _ (λ e. le-leb _ _ (by_contra _ _ (λ x. f x (leb-false _ _ e))))

-- ---- a good map

pub good-true : (m : FormMap) → good_map m ≡ true → Good m
unfolding good_map
good-true m e =
    let a = and-true _ _ e in
    let b = and-true _ _ a.0 in
    let h = area-true _ _ _ _ b.0 in
    let k = area-true _ _ _ _ b.1 in
    record {
      heap_from = h.0;
      heap_start_whole = h.1;
      heap_size_whole = h.2;
      heap_least = h.3;
      heap_most = h.4;
      heap_end = h.5;
      stack_from = k.0;
      stack_start8 = k.1;
      stack_size8 = k.2;
      stack_least = k.3;
      stack_most = k.4;
      stack_end = k.5;
      no_share = apart-true _ _ _ _ a.1;
    }

pub true-good : (m : FormMap) → Good m → good_map m ≡ true
unfolding good_map
true-good m g =
    rw (
      true-area _ _ _ _ (g.heap_from, g.heap_start_whole, g.heap_size_whole, g.heap_least, g.heap_most, g.heap_end),
      true-area _ _ _ _ (g.stack_from, g.stack_start8, g.stack_size8, g.stack_least, g.stack_most, g.stack_end),
      true-apart _ _ _ _ g.no_share,
    )

-- ---- a good map as the code tests it

-- starts and sizes are whole, and the sizes within their limits
abbrev pub whole : FormMap → Bool
whole m =
    ((eqb (m.heap_start % m.segment) 0 && eqb (m.heap_size % m.segment) 0 && leb (m.segment + m.segment) m.heap_size) && leb m.heap_size 131072)
    && (eqb (m.stack_start % 8) 0 && eqb (m.stack_size % 8) 0 && leb 16 m.stack_size && leb m.stack_size 65536)

-- an area that does not begin at 0 ends at or below another's start
abbrev pub lower : (start size other : ℕ) → Bool
lower start size other = leb 1 start && leb (start + size) other

module _ (m : FormMap) where
  abbrev h : ℕ
  h = m.heap_start

  abbrev n : ℕ
  n = m.heap_size

  abbrev s : ℕ
  s = m.stack_start

  abbrev k : ℕ
  k = m.stack_size

  pub good-whole : good_map m ≡ true → whole m ≡ true
  good-whole e =
      let g = good-true m e in
      rw (
        eq-eqb _ _ g.heap_start_whole,
        eq-eqb _ _ g.heap_size_whole,
        le-leb _ _ g.heap_least,
        le-leb _ _ g.heap_most,
        eq-eqb _ _ g.stack_start8,
        eq-eqb _ _ g.stack_size8,
        le-leb _ _ g.stack_least,
        le-leb _ _ g.stack_most,
      )

  whole-facts : whole m ≡ true → (h % m.segment ≡ 0) × (n % m.segment ≡ 0) × (m.segment + m.segment ≤ n) × (n ≤ 131072)
      × (s % 8 ≡ 0) × (k % 8 ≡ 0) × (16 ≤ k) × (k ≤ 65536)
  whole-facts e =
      let a = and-true _ _ e in
      let b = and-true _ _ a.0 in
      let c = and-true _ _ b.0 in
      let d = and-true _ _ c.0 in
      let f = and-true _ _ a.1 in
      let g = and-true _ _ f.0 in
      let i = and-true _ _ g.0 in (
        eqb-true _ _ d.0,
        eqb-true _ _ d.1,
        leb-true _ _ c.1,
        leb-true _ _ b.1,
        eqb-true _ _ i.0,
        eqb-true _ _ i.1,
        leb-true _ _ g.1,
        leb-true _ _ f.1,
      )

  -- a whole start that is not 0 is a segment at least
  from_one : h % m.segment ≡ 0 → 1 ≤ h → m.segment ≤ h
  from_one z o =
      by_contra _ _
      (λ x. let e : h / m.segment ≡ 0 = div-eq_of_lt x in
      let d = div-add-mod' h m.segment in
      let q : h ≡ 0 = sym d ∙ rw (e, z) (omega arith) in
      omega (arith, q))

  -- the map of whole areas is good if they lie apart and end in the address space
  good_of : whole m ≡ true → 1 ≤ h → 1 ≤ s → h + n ≤ 4294967295 → s + k ≤ 4294967295 → (h < s + k → s < h + n → ⊥) → good_map m ≡ true
  good_of e a b c d f =
      let w = whole-facts e in
      true-good m
      record {
        heap_from = from_one w.0 a;
        heap_start_whole = w.0;
        heap_size_whole = w.1;
        heap_least = w.2;
        heap_most = w.3;
        heap_end = c;
        stack_from = let z = w.4 in omega arith;
        stack_start8 = w.4;
        stack_size8 = w.5;
        stack_least = w.6;
        stack_most = w.7;
        stack_end = d;
        no_share = f;
      }

  lower-facts : (x y z : ℕ) → lower x y z ≡ true → (1 ≤ x) × (x + y ≤ z)
  lower-facts x y z e = let a = and-true _ _ e in (leb-true _ _ a.0, leb-true _ _ a.1)

  -- the heap below the stack
  pub heap-lower : whole m ≡ true → s < 4294967296 → lower h n s ≡ true → leb (s + k) 4294967295 ≡ good_map m
  heap-lower e u l =
      let w = whole-facts e in
      let f = lower-facts h n s l in
      same_test _ _
      (λ t. let c = leb-true (s + k) 4294967295 t in
      good_of e f.0 (omega (arith, f.0, f.1)) (omega (arith, f.1)) c (λ x y. omega (arith, f.1)))
      (λ t. le-leb _ _ (good-true m t).stack_end)

  -- the stack below the heap
  pub stack-lower : whole m ≡ true → h < 4294967296 → lower s k h ≡ true → leb (h + n) 4294967295 ≡ good_map m
  stack-lower e u l =
      let f = lower-facts s k h l in
      same_test _ _
      (λ t. let c = leb-true (h + n) 4294967295 t in
      good_of e (omega (arith, f.0, f.1)) f.0 c (omega (arith, f.1)) (λ x y. omega (arith, f.1)))
      (λ t. le-leb _ _ (good-true m t).heap_end)

  -- neither
  pub none-lower : lower h n s ≡ false → lower s k h ≡ false → good_map m ≡ false
  none-lower a b =
      false_of (good_map m)
      (λ t. let g = good-true m t in
      g.no_share
      (by_contra _ _ (λ x. not-both _ (rw (le-leb 1 s (omega (arith, g.stack_from)), le-leb (s + k) h (omega (arith, x)))) b))
      (by_contra _ _ (λ x. not-both _ (rw (le-leb 1 h (omega (arith, g.heap_from, segment-least m)), le-leb (h + n) s (omega (arith, x)))) a)))

-- address 0 lies in no area
pub zero-outside : (m : FormMap) → good_map m ≡ true → area_of (areas m) 0 ≡ Outside
unfolding area_of
zero-outside m e =
    let g = good-true m e in
    rw (in-below m.heap_start _ 0 (omega (arith, segment-least m)), in-below m.stack_start _ 0 (omega arith))
