-- What the sizes of a form come to, and the desk's: see specs/Desk.antt for what each says. Assumes nothing.
use mathlib.Core.Path.{◌≡◌, sym, ap, ◌∙◌}
use mathlib.Core.Bool.{true, false, cond}
use Prim.Native.Nat.{ℕ, ◌+◌, ◌*◌, ◌-◌, ◌/◌, ◌%◌, ◌≤◌, ◌<◌}
use native.Mathlib.Omega.{arith}
use native.Mathlib.Nat.{div-add-mod', mod-lt, mul-mod_left, div-eq_of_lt-le, div-lt_iff_lt-mul, le-div_iff_mul-le}
use lib.ListN.{length-replicate}
use lib.Dec.{leb}
use borrow.Author.Tests.{eqb-true, leb-false}
use Rattle.number.specs.Little.{word}
use Rattle.number.specs.Parts.{at}
use Rattle.number.proofs.TestLaws.{Test, is_true, is_false, test}
use Rattle.map.specs.FormMap.{FormMap, desk}
use Rattle.map.proofs.MapLaws.{good-true, within-true, true-within, segment-least, number-holds}
use Rattle.types.specs.declared.Beginning.{Beginning}
use Rattle.types.specs.declared.Beginning.TheVariants.{Unwritten}
use Rattle.plain.specs.Areas.{segments, heap_rules}
use Rattle.plain.specs.Block.{len, starts_written, begun}
use Rattle.plain.specs.Call.{begin, record_block, ask, Answer, answer}
use Rattle.plain.specs.Lift.{reading_up, down}
use Rattle.plain.specs.Reading.{Reading, nothing, block}
use Rattle.plain.proofs.AreaLaws.{heap-span}
use Rattle.plain.proofs.StampedLaws as plain
use Rattle.heap_layout.specs.Reading.{heap_reading, written_bit}
use Rattle.heap_layout.specs.Ops.{heap_stamp}
use Rattle.heap_layout.proofs.SegmentLaws.{Sizes, segments-lt, aligned-eq}
use Rattle.heap_layout.proofs.ReadingLaws as heap
use Rattle.heap_layout.proofs.StampedLaws.{ends, stamped-header, stamped-length, stamped-number}
use Rattle.shadows.specs.Shadows.{Shadows, shadow_ops, lengths_fit}
use Rattle.shadows.proofs.ShadowLaws.{true-fit, shadow-stamped}
use Rattle.monitor_base.specs.Calls.{call}
use Rattle.demands.specs.Addresses.{in_heap}
use Rattle.demands.specs.Demand1.{number_of}
use Rattle.demands.specs.Demand2.{asked}
use Rattle.demands.specs.Desk.{RecordedRead, DeskExample}
use Rattle.demands.proofs.Alters.{heap-placed}
use Rattle.demands.proofs.Begun as begun
use Rattle.demands.proofs.Demand2.{ask-reads}
use Rattle.demands.proofs.Starts.{bytes-start}

-- ---- a heap block right after it is recorded, on any shadows

module _ (m : FormMap) (how : Beginning) (b l : ℕ) (s : Shadows) (e : number_of m (begin how b l) s ≡ 0) (i : in_heap m b ≡ true) where
  A : begun.Accepted m how b l s e
  A = begun.accepted m how b l s e

  abbrev after : Shadows
  after = (call m (begin how b l) s).0

  abbrev base : ℕ
  base = b - m.heap_start

  long : len (begun how b l) ≡ l
  long = length-replicate l (starts_written how)

  sizes : Sizes m.width m.segment m.heap_size
  sizes =
      let g = good-true m A.good in
      record { wide = m.wide; two = m.two; small = number-holds m m.heap_size g.heap_most; whole = g.heap_size_whole }

  stands : plain.Stands (heap_rules m.segment 0 m.heap_size) (down m.heap_start (begun how b l))
  stands =
      let P = heap-placed m how b l s A.good A.fit (begun.stands m how b l s e) i in
      record { some = P.some; fits = P.fits; aligned = P.aligned; proper = P.proper }

  heap-after : after.0 ≡ heap_stamp m.width m.segment s.0 (down m.heap_start (begun how b l))
  heap-after = ap (λ (x : Shadows × Answer). x.0.0) (begun.began m how b l s e) ∙ rw i

  pub after-header : word (at after.0) (base - m.segment) m.width ≡ 0
  after-header = rw heap-after (stamped-header sizes s.0 A.fit.0 (down m.heap_start (begun how b l)) stands)

  pub after-length : word (at after.0) (base - m.segment + m.width) m.width ≡ l
  after-length = rw heap-after (stamped-length sizes s.0 A.fit.0 (down m.heap_start (begun how b l)) stands ∙ long)

  pub after-number : (j : ℕ) → j * m.segment < l → word (at after.0) (base + j * m.segment) m.width ≡ j * m.segment + 1
  after-number j x = rw heap-after (stamped-number sizes s.0 A.fit.0 (down m.heap_start (begun how b l)) stands j (rw long x))

  pub place-ends : base + segments m.segment l * m.segment ≤ m.heap_size
  place-ends = rw long at (ends sizes s.0 A.fit.0 (down m.heap_start (begun how b l)) stands)

  -- the base is a multiple of the segment, one at least from the heap's start, and the block ends in the area
  room : (m.heap_start ≤ b) × (m.segment ≤ base) × (base % m.segment ≡ 0) × (1 ≤ l) × (base + l ≤ m.heap_size)
  room =
      let f = heap-span m.segment 0 m.heap_size base l (rw long at stands.fits) in
      ((within-true m.heap_start m.heap_size b i).0, omega (arith, f.from), eqb-true (base % m.segment) 0 stands.aligned, A.some, omega (arith, f.to))

  pub after-fits : lengths_fit m after ≡ true
  after-fits =
      ap (λ (x : Shadows × Answer). lengths_fit m x.0) (begun.began m how b l s e)
      ∙ true-fit m ((shadow_ops m).stamp s (begun how b l)) ((shadow-stamped m A.good).stamp-fit s A.fit (begun how b l))

-- what ask answers there, by the reading of the position
module _ (m : FormMap) (b l : ℕ) (s : Shadows) (e : number_of m (record_block b l) s ≡ 0) (i : in_heap m b ≡ true) (x : ℕ) where
  abbrev p : ℕ
  p = x - m.heap_start

  abbrev then : Shadows
  then = after m Unwritten b l s e i

  abbrev found : Reading
  found = heap_reading m.width m.segment m.heap_size (at then.0) p

  asks : in_heap m x ≡ true → (call m (ask x) then).1 ≡ asked (reading_up m.heap_start found)
  asks h = ap (λ (y : Shadows × Answer). y.1) (ask-reads m then (A m Unwritten b l s e i).good (after-fits m Unwritten b l s e i) x) ∙ rw h

  in-segments : b ≤ x → x < b + segments m.segment l * m.segment
      → (call m (ask x) then).1 ≡ cond (leb l (x - b)) (answer 7 0 0 0 0) (answer 0 b l (x - b) 0)
  in-segments lo hi =
      let G : ℕ = m.segment in
      let g : 0 < G = omega (arith, segment-least m) in
      let c : ℕ = base m Unwritten b l s e i in
      let r = room m Unwritten b l s e i in
      let ec = aligned-eq g c r.2 in
      let j : ℕ = (p - c) / G in
      let d = div-add-mod' (p - c) G in
      let v = mod-lt (p - c) g in
      let k : p / G ≡ c / G + j = div-eq_of_lt-le {k = c / G + j} G {m = p} (omega arith) (omega arith) in
      let start : p / G * G ≡ c + j * G = rw k (omega arith) in
      let few : j * G < l = segments-lt g l j ((div-lt_iff_lt-mul {k = G} {x = p - c} {y = segments G l} g).1 (omega arith)) in
      let read = heap.read_some m.width G m.heap_size (at then.0) p (j * G) c l (rw start (after-number m Unwritten b l s e i j few)) start
      (after-length m Unwritten b l s e i) (mul-mod_left j G) r.1 r.3 r.4 few in
      let up : m.heap_start + c ≡ b = omega arith in
      let off : p - c ≡ x - b = omega arith in
      let h : in_heap m x ≡ true = true-within m.heap_start m.heap_size x (omega arith) (omega (arith, place-ends m Unwritten b l s e i)) in
      asks h ∙ rw (read, off) (go h (test (leb l (x - b))) up)
    where
      go : in_heap m x ≡ true → Test (leb l (x - b)) → m.heap_start + base m Unwritten b l s e i ≡ b
          → asked (reading_up m.heap_start (cond (leb l (x - b)) nothing (block (base m Unwritten b l s e i) l (x - b) (written_bit m.width m.segment (at then.0) p) false)))
          ≡ cond (leb l (x - b)) (answer 7 0 0 0 0) (answer 0 b l (x - b) 0)
      go h (is_true t) up = rw t
      go h (is_false t) up =
          let n : written_bit m.width m.segment (at then.0) p ≡ 0 = rw h at ((bytes-start m b l s x lo (omega (arith, leb-false l (x - b) t))).0 e).0 in
          rw (t, n, up)

  in-header : b ≤ x + m.segment → x < b → (call m (ask x) then).1 ≡ answer 7 0 0 0 0
  in-header lo hi =
      let G : ℕ = m.segment in
      let g : 0 < G = omega (arith, segment-least m) in
      let c : ℕ = base m Unwritten b l s e i in
      let r = room m Unwritten b l s e i in
      let ec = aligned-eq g c r.2 in
      let one : 1 ≤ c / G = (le-div_iff_mul-le {k = G} {x = 1} {y = c} g).1 (omega arith) in
      let back : (c / G - 1) * G + G ≡ c / G * G = sym (ap (λ (y : ℕ). y * G) (sub-one (c / G) one) ∙ omega arith) in
      let k : p / G ≡ c / G - 1 = div-eq_of_lt-le {k = c / G - 1} G {m = p} (omega arith) (omega arith) in
      let start : p / G * G ≡ c - G = rw k (omega arith) in
      let read = heap.read_none m.width G m.heap_size (at then.0) p (rw start (after-header m Unwritten b l s e i)) in
      let h : in_heap m x ≡ true = true-within m.heap_start m.heap_size x (omega arith) (omega arith) in
      asks h ∙ rw read
    where
      sub-one : (n : ℕ) → 1 ≤ n → n ≡ n - 1 + 1
      sub-one n y = omega arith

pub recorded-read : (m : FormMap) → RecordedRead m
recorded-read m s b l e i = (λ x lo hi. in-segments m b l s e i x lo hi, λ x lo hi. in-header m b l s e i x lo hi)

-- ---- the desk

pub desk_example : DeskExample
unfolding segments
desk_example m s e i =
    let r = (recorded-read (desk m) s 256 40 e i).0 in
    (r 294 (omega arith) (omega arith), r 298 (omega arith) (omega arith))
