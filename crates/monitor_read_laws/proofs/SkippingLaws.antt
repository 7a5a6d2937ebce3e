-- The search for the next block by addresses: what a reading settles, and where the climb goes on above it. Assumes nothing.
use mathlib.Core.Path.{◌≡◌, refl, sym, ap, ◌∙◌}
use mathlib.Core.Bool.{Bool, true, false, true≢false, false≢true}
use mathlib.Core.List.{List}
use Prim.Native.Nat.{ℕ, zero, suc, ◌+◌, ◌*◌, ◌-◌, ◌/◌, ◌%◌, ◌≤◌, ◌<◌}
use native.Mathlib.Omega.{arith, by_contra}
use native.Mathlib.Nat.{div-add-mod', mod-lt}
use lib.Dec.{ltb, eqb}
use lib.ListN.{length}
use borrow.Author.Tests.{eq-eqb, eqb-true, eqb-false, ltb-true, ltb-false}
use Rattle.number.specs.Little.{word}
use Rattle.number.specs.Parts.{at}
use Rattle.number.proofs.TestLaws.{Test, is_true, is_false, test, or_case, false_of}
use Rattle.map.specs.declared.Map.{Map}
use Rattle.map.specs.FormMap.{FormMap, areas}
use Rattle.map.specs.declared.Area.TheVariants as area
use Rattle.map.specs.Map.{good_map, within, area_of}
use Rattle.map.proofs.MapLaws.{Good, good-true, within-true, true-within, segment-least}
use Rattle.plain.specs.Areas.{map_rules}
use Rattle.plain.specs.Lift.{reading_up}
use Rattle.plain.specs.Ops.{read_any}
use Rattle.plain.specs.Reading.{Reading, nothing, block, damaged}
use Rattle.plain.specs.ShadowCalls.{is_damaged, is_first, length_of}
use Rattle.plain.proofs.ClimbLaws.{from}
use Rattle.heap_layout.specs.Reading.{heap_reading}
use Rattle.heap_layout.proofs.ReadingLaws as heap
use Rattle.stack_layout.specs.Reading.{stack_reading}
use Rattle.stack_layout.proofs.ReadingLaws as stack
use Rattle.shadows.specs.Shadows.{Shadows, lengths_fit, shadow_ops}
use Rattle.map.specs.Locating.{Lies}
use Rattle.map.specs.declared.Located.{Located}
use Rattle.map.specs.declared.Located.TheVariants.{Heap, Stack, Outside}
use Rattle.monitor_base.proofs.LocatingLaws.{heap-lengths, stack-lengths, heap-there, stack-there, area-heap, area-stack, area-out, read-heap, read-stack, read_out}
use Rattle.monitor_read_laws.specs.Asked.{reading_at, origin_of}
use Rattle.monitor_read_laws.specs.Climbed.{start_above, Skips}
use Rattle.monitor_read_laws.proofs.ClimbingLaws.{Goes, goes, goes-up, goes_down, goes_same, climb-over, climb-first, climb-damaged, goes-segment, zero-byte}

module _ (m : FormMap) (s : Shadows) (ok : good_map m ≡ true) (fit : lengths_fit m s ≡ true) where
  abbrev hs : ℕ
  hs = m.heap_start

  abbrev ss : ℕ
  ss = m.stack_start

  abbrev pub rd : ℕ → Reading
  rd = read_any (map_rules m) (shadow_ops m) s

  abbrev pub top : ℕ
  top = (map_rules m).top

  good : Good m
  good = good-true m ok

  in-heap : (q : ℕ) → q < length s.0 → rd (hs + q) ≡ reading_up hs (heap_reading m.width m.segment (length s.0) (at s.0) q)
  unfolding read_any
  in-heap q h =
      let l = (heap-lengths m s ok fit).0 in
      let e : hs + q - hs ≡ q = omega arith in
      rw (true-within hs m.heap_size (hs + q) (omega arith) (omega arith), e, l)

  in_stack : (q : ℕ) → q < length s.1.0 → rd (ss + q) ≡ reading_up ss (stack_reading (length s.1.0) (at s.1.0) (at s.1.1) q)
  unfolding read_any
  in_stack q h =
      let l = (stack-lengths m s ok fit).0 in
      let e : ss + q - ss ≡ q = omega arith in
      let n : within hs m.heap_size (ss + q) ≡ false =
      false_of _ (λ t. let u = within-true hs m.heap_size (ss + q) t in good.no_share (omega arith) (omega arith)) in
      rw (n, true-within ss m.stack_size (ss + q) (omega arith) (omega arith), e, l)

  out : (z : ℕ) → (hs ≤ z → z < hs + m.heap_size → ⊥) → (ss ≤ z → z < ss + m.stack_size → ⊥) → rd z ≡ nothing
  unfolding read_any
  out z h k =
      let e : (map_rules m).inside z ≡ false =
      false_of _ (λ t. or_case (within hs m.heap_size z) (within ss m.stack_size z) t
      (λ p. let w = within-true _ _ _ p in h w.0 w.1) (λ p. let w = within-true _ _ _ p in k w.0 w.1)) in
      rw e

  -- the climb from a comes to what it comes to from r, above a and at most at the end of the areas
  abbrev Goes-to : (a r : ℕ) → Type 0
  Goes-to a r = (a < r) × (r ≤ top) × (from rd top a ≡ from rd top r)

  over-heap : (a p z : ℕ) → hs ≤ a → p ≡ a - hs → p < length s.0 → Goes (rd a) → p / m.segment * m.segment + m.segment ≤ z → z ≤ length s.0
      → ((x : ℕ) → p / m.segment * m.segment + m.segment ≤ x → x < z → word (at s.0) (x / m.segment * m.segment) m.width ≡ 0) → Goes-to a (hs + z)
  over-heap a p z le ep lt g lo hi free =
      let l = (heap-lengths m s ok fit).0 in
      (omega (arith, below), omega arith, climb-over rd top a (hs + z) (omega (arith, below)) (omega arith) each)
    where
      below : p < z
      below = omega (arith, div-add-mod' p m.segment, mod-lt p {m = m.segment} (omega (arith, segment-least m)))

      e : hs + p ≡ a
      e = omega arith

      first : Goes (heap_reading m.width m.segment (length s.0) (at s.0) p)
      first =
          let r = heap_reading m.width m.segment (length s.0) (at s.0) p in
          goes_down hs r (goes_same (reading_up hs r) (rd a) (sym (in-heap p lt) ∙ ap rd e) g)

      each : (x : ℕ) → a ≤ x → x < hs + z → Goes (rd x)
      each x i j =
          let u : hs + (x - hs) ≡ x = omega arith in
          let r = heap_reading m.width m.segment (length s.0) (at s.0) (x - hs) in
          goes_same (rd x) (reading_up hs r) (ap rd (sym u) ∙ in-heap (x - hs) (omega arith)) (goes-up hs r (go (test (ltb (x - hs) (p / m.segment * m.segment + m.segment)))))
        where
          go : Test (ltb (x - hs) (p / m.segment * m.segment + m.segment)) → Goes (heap_reading m.width m.segment (length s.0) (at s.0) (x - hs))
          go (is_true t) = goes-segment m.width m.segment (length s.0) (at s.0) p (x - hs) first (omega arith) (ltb-true _ _ t)
          go (is_false t) = goes_same (heap_reading m.width m.segment (length s.0) (at s.0) (x - hs)) nothing (heap.read_none m.width m.segment (length s.0) (at s.0) (x - hs) (free (x - hs) (ltb-false _ _ t) (omega arith))) tt

  over-stack : (a p z : ℕ) → ss ≤ a → p ≡ a - ss → Goes (rd a) → p + 1 ≤ z → z ≤ length s.1.0
      → ((x : ℕ) → p + 1 ≤ x → x < z → at s.1.0 x ≡ 0) → Goes-to a (ss + z)
  over-stack a p z le ep g lo hi free =
      let l = (stack-lengths m s ok fit).0 in
      (omega arith, omega arith, climb-over rd top a (ss + z) (omega arith) (omega arith) each)
    where
      each : (x : ℕ) → a ≤ x → x < ss + z → Goes (rd x)
      each x i j = go (test (eqb x a))
        where
          go : Test (eqb x a) → Goes (rd x)
          go (is_true t) = rw (eqb-true x a t) g
          go (is_false t) =
              let k = eqb-false x a t in
              let u : ss + (x - ss) ≡ x = omega arith in
              goes_same (rd x) nothing (ap rd (sym u) ∙ in_stack (x - ss) (omega arith) ∙ ap (reading_up ss) (zero-byte (length s.1.0) (at s.1.0) (at s.1.1) (x - ss) (free (x - ss) (omega arith) (omega arith)))) tt

  -- from a to the start r of an area, below the end of the areas, nothing lies in an area
  over-outside : (a r : ℕ) → a < r → r ≤ top → ((x : ℕ) → a ≤ x → x < r → (hs ≤ x → x < hs + m.heap_size → ⊥) × (ss ≤ x → x < ss + m.stack_size → ⊥)) → Goes-to a r
  over-outside a r h k f = (h, k, climb-over rd top a r (omega arith) k (λ x i j. let n = f x i j in goes_same (rd x) nothing (out x n.0 n.1) tt))

  -- an address outside both areas and below the end of them: the start above it
  abbrev Clear-to : (a r : ℕ) → Type 0
  Clear-to a r = (a < r) × (r ≤ top) × ((x : ℕ) → a ≤ x → x < r → (hs ≤ x → x < hs + m.heap_size → ⊥) × (ss ≤ x → x < ss + m.stack_size → ⊥))

  start-above : (a : ℕ) → a < top → (hs ≤ a → a < hs + m.heap_size → ⊥) → (ss ≤ a → a < ss + m.stack_size → ⊥) → Clear-to a (start_above (areas m) a)
  unfolding start_above
  start-above a lt nh ns = go (test (ltb hs ss)) (test (ltb a hs)) (test (ltb a ss))
    where
      heap-least : 16 ≤ m.heap_size
      heap-least = omega (arith, segment-least m, good.heap_least)

      stack-least : 16 ≤ m.stack_size
      stack-least = good.stack_least

      go : Test (ltb hs ss) → Test (ltb a hs) → Test (ltb a ss) → Clear-to a (start_above (areas m) a)
      go (is_true t) (is_true u) v =
          let h : hs < ss = ltb-true _ _ t in
          let k : a < hs = ltb-true _ _ u in
          let c : Clear-to a hs = (k, omega arith, λ x i j. (λ p q. omega arith, λ p q. omega arith)) in
          rw (t, u) c
      go (is_true t) (is_false u) v =
          let h : hs < ss = ltb-true _ _ t in
          let k : hs ≤ a = ltb-false _ _ u in
          let e : hs + m.heap_size ≤ a = by_contra _ _ (λ z. nh k z) in
          let n : hs + m.heap_size ≤ ss = by_contra _ _ (λ z. good.no_share (omega arith) z) in
          let w : a < ss = by_contra _ _ (λ z. ns (omega arith) (omega arith)) in
          let c : Clear-to a ss = (w, omega arith, λ x i j. (λ p q. omega arith, λ p q. omega arith)) in
          rw (t, u) c
      go (is_false t) u (is_true v) =
          let h : ss ≤ hs = ltb-false _ _ t in
          let k : a < ss = ltb-true _ _ v in
          let c : Clear-to a ss = (k, omega arith, λ x i j. (λ p q. omega arith, λ p q. omega arith)) in
          rw (t, v) c
      go (is_false t) u (is_false v) =
          let h : ss ≤ hs = ltb-false _ _ t in
          let k : ss ≤ a = ltb-false _ _ v in
          let e : ss + m.stack_size ≤ a = by_contra _ _ (λ z. ns k z) in
          let n : ss + m.stack_size ≤ hs = by_contra _ _ (λ z. good.no_share z (omega arith)) in
          let w : a < hs = by_contra _ _ (λ z. nh (omega arith) (omega arith)) in
          let c : Clear-to a hs = (w, omega arith, λ x i j. (λ p q. omega arith, λ p q. omega arith)) in
          rw (t, v) c

  -- where the climb goes on above the reading of a, it goes on at r
  pub skips : (a : ℕ) (l : Located) → Lies (areas m) a l → a < top → Goes (rd a) → (r : ℕ) → Skips m s.0 s.1.0 a l r → Goes-to a r
  skips a (Heap q) i lt g r (z, e, f) =
      let w = within-true hs m.heap_size a (area-heap (areas m) a i.0) in
      let l = (heap-lengths m s ok fit).0 in
      rw e (over-heap a q.0 z w.0 i.1 (omega arith) g f.0 f.1 f.2)
  skips a (Stack q) i lt g r (z, e, f) =
      let w = within-true ss m.stack_size a (area-stack (areas m) a i.0).1 in
      rw e (over-stack a q.0 z w.0 i.1 g f.0 f.1 f.2)
  skips a Outside i lt g r e =
      let n = area-out (areas m) a i in
      let c = start-above a lt (λ p q. true≢false (sym (true-within hs m.heap_size a p q) ∙ n.0)) (λ p q. true≢false (sym (true-within ss m.stack_size a p q) ∙ n.1)) in
      rw e (over-outside a (start_above (areas m) a) c.0 c.1 c.2)

  -- ---- what the reading of an address that lies there settles

  abbrev at_place : Located → Reading
  at_place l = reading_at m.width m.segment l s.0 s.1.0 s.1.1

  read_at : (a : ℕ) (l : Located) → Lies (areas m) a l → rd a ≡ reading_up (origin_of (areas m) l) (at_place l)
  read_at a (Heap q) i = (read-heap m s ok fit a q.0 i.0 i.1).0
  read_at a (Stack q) i = (read-stack m s ok fit a q.0 i.0 i.1).0
  read_at a Outside i = (read_out m s a i).0

  pub goes_at : (a : ℕ) (l : Located) → Lies (areas m) a l → (r : Reading) → r ≡ at_place l → is_damaged r ≡ false → is_first r ≡ false → Goes (rd a)
  goes_at a l i r e d f = goes_same (rd a) (reading_up (origin_of (areas m) l) r) (read_at a l i ∙ ap (reading_up (origin_of (areas m) l)) (sym e)) (goes-up (origin_of (areas m) l) r (goes r d f))

  pub damaged-at : (a : ℕ) (l : Located) → Lies (areas m) a l → a < top → (r : Reading) → r ≡ at_place l → is_damaged r ≡ true → from rd top a ≡ damaged
  damaged-at a l i h nothing e d = absurd (false≢true d)
  damaged-at a l i h (block b n o w t) e d = absurd (false≢true d)
  damaged-at a l i h damaged e d = climb-damaged rd top a h (read_at a l i ∙ ap (reading_up (origin_of (areas m) l)) (sym e))

  -- a reading with offset 0 is of its block's base
  base-is : (a : ℕ) (l : Located) → Lies (areas m) a l → (b n w : ℕ) (k : Bool) → block b n 0 w k ≡ at_place l → origin_of (areas m) l + b ≡ a
  base-is a (Heap q) i b n w k e =
      let t = heap.reading-told m.width m.segment (length s.0) (at s.0) q.0 b n 0 w k (sym e) in
      let u = within-true hs m.heap_size a (area-heap (areas m) a i.0) in
      omega (arith, t.low, t.offset, u.0, i.1)
  base-is a (Stack q) i b n w k e =
      let t = stack.reading-told (length s.1.0) (at s.1.0) (at s.1.1) q.0 b n 0 w k (sym e) in
      let u = within-true ss m.stack_size a (area-stack (areas m) a i.0).1 in
      omega (arith, t.low, t.offset, u.0, i.1)
  base-is a Outside i b n w k e = absurd (let z : ◌≡◌ {A = ℕ} 0 1 = cc in omega arith)

  pub first-at : (a : ℕ) (l : Located) → Lies (areas m) a l → a < top → (r : Reading) → r ≡ at_place l → is_first r ≡ true → (w : ℕ) × (k : Bool) × (from rd top a ≡ block a (length_of r) 0 w k)
  first-at a l i h nothing e f = absurd (false≢true f)
  first-at a l i h (block b n zero w k) e f =
      (w, k, rw (base-is a l i b n w k e) at (climb-first rd top a (origin_of (areas m) l + b) n 0 w k h (read_at a l i ∙ ap (reading_up (origin_of (areas m) l)) (sym e)) refl))
  first-at a l i h (block b n (suc o) w k) e f = absurd (omega (arith, eqb-true (suc o) 0 f))
  first-at a l i h damaged e f = absurd (false≢true f)

-- ---- where the address lies, by the lengths of two shadows alone

pub same-lies : (m : Map) (a : ℕ) (l k : Located) → l ≡ k → Lies m a l → Lies m a k
same-lies m a l k e i = rw e at i

pub same-skips : (m : FormMap) (h p : List ℕ) (a r : ℕ) (l k : Located) → l ≡ k → Skips m h p a k r → Skips m h p a l r
same-skips m h p a r l k e i = rw e i

module _ (m : FormMap) (h p : List ℕ) (ok : good_map m ≡ true) (eh : length h ≡ m.heap_size) (ep : length p ≡ m.stack_size) where
  -- the secondary has no part in this
  fits : lengths_fit m (h, (p, p)) ≡ true
  unfolding lengths_fit
  fits = rw (eq-eqb _ _ eh, eq-eqb _ _ ep)

  pub lies-heap : (a q : ℕ) → area_of (areas m) a ≡ area.Heap → q ≡ a - m.heap_start
      → (q < length h) × (length h % m.segment ≡ 0) × (length h ≤ 131072) × (m.heap_start + length h ≤ 4294967295)
  lies-heap a q e i =
      let t = heap-there m (h, (p, p)) ok fits a q e i in
      (t.0, t.1, t.2, rw eh (good-true m ok).heap_end)

  pub lies-stack : (a q : ℕ) → area_of (areas m) a ≡ area.Stack → q ≡ a - m.stack_start
      → (q < length p) × (length p ≤ 65536) × (m.stack_start + length p ≤ 4294967295)
  lies-stack a q e i =
      let t = stack-there m (h, (p, p)) ok fits a q e i in
      (t.0, t.2, rw ep (good-true m ok).stack_end)
