-- What is known of an address once its area is known. Assumes nothing.
use mathlib.Core.Path.{◌≡◌, refl, sym, ◌∙◌}
use mathlib.Core.Bool.{Bool, true, false, false≢true}
use Prim.Native.Nat.{ℕ, ◌+◌, ◌-◌, ◌%◌, ◌≤◌, ◌<◌}
use native.Mathlib.Omega.{arith}
use lib.ListN.{length}
use borrow.Author.Tests.{leb-true}
use Rattle.number.specs.Parts.{at}
use Rattle.number.proofs.TestLaws.{Test, is_true, is_false, test}
use Rattle.map.specs.declared.Map.{Map}
use Rattle.map.specs.FormMap.{FormMap, areas}
use Rattle.map.specs.declared.Area.{Area}
use Rattle.map.specs.declared.Area.TheVariants.{Heap, Stack, Outside}
use Rattle.map.specs.Map.{good_map, within, area_of, start_of, end_of}
use Rattle.map.proofs.MapLaws.{Good, good-true, within-true, zero-outside}
use Rattle.plain.specs.Areas.{map_rules}
use Rattle.plain.specs.Reading.{Reading, nothing, block, damaged}
use Rattle.plain.specs.Lift.{reading_up}
use Rattle.plain.specs.Ops.{read_any}
use Rattle.plain.specs.ShadowCalls.{in_one, is_literal}
use Rattle.heap_layout.specs.Reading.{heap_reading}
use Rattle.heap_layout.proofs.ReadingLaws as heap
use Rattle.stack_layout.specs.Reading.{stack_reading}
use Rattle.stack_layout.proofs.ReadingLaws as stack
use Rattle.shadows.specs.Shadows.{Shadows, lengths_fit, shadow_ops}
use Rattle.shadows.proofs.ShadowLaws.{Fit, fit-true}

-- ---- the area of an address

module _ (m : Map) (a : ℕ) where
  abbrev in_heap : Bool
  in_heap = within m.heap_start m.heap_size a

  abbrev in_stack : Bool
  in_stack = within m.stack_start m.stack_size a

  pub area-heap : area_of m a ≡ Heap → in_heap ≡ true
  unfolding area_of
  area-heap e = go (test in_heap) (test in_stack)
    where
      go : Test in_heap → Test in_stack → in_heap ≡ true
      go (is_true h) k = h
      go (is_false h) (is_true k) = absurd (let e' : Stack ≡ Heap = rw (h, k) at e in let z : ◌≡◌ {A = ℕ} 0 1 = cc in omega arith)
      go (is_false h) (is_false k) = absurd (let e' : Outside ≡ Heap = rw (h, k) at e in let z : ◌≡◌ {A = ℕ} 0 1 = cc in omega arith)

  pub area-stack : area_of m a ≡ Stack → (in_heap ≡ false) × (in_stack ≡ true)
  unfolding area_of
  area-stack e = go (test in_heap) (test in_stack)
    where
      go : Test in_heap → Test in_stack → (in_heap ≡ false) × (in_stack ≡ true)
      go (is_true h) k = absurd (let e' : Heap ≡ Stack = rw h at e in let z : ◌≡◌ {A = ℕ} 0 1 = cc in omega arith)
      go (is_false h) (is_true k) = (h, k)
      go (is_false h) (is_false k) = absurd (let e' : Outside ≡ Stack = rw (h, k) at e in let z : ◌≡◌ {A = ℕ} 0 1 = cc in omega arith)

  pub area-out : area_of m a ≡ Outside → (in_heap ≡ false) × (in_stack ≡ false)
  unfolding area_of
  area-out e = go (test in_heap) (test in_stack)
    where
      go : Test in_heap → Test in_stack → (in_heap ≡ false) × (in_stack ≡ false)
      go (is_true h) k = absurd (let e' : Heap ≡ Outside = rw h at e in let z : ◌≡◌ {A = ℕ} 0 1 = cc in omega arith)
      go (is_false h) (is_true k) = absurd (let e' : Stack ≡ Outside = rw (h, k) at e in let z : ◌≡◌ {A = ℕ} 0 1 = cc in omega arith)
      go (is_false h) (is_false k) = (h, k)

-- ---- good map, right lengths

module _ (m : FormMap) (s : Shadows) (ok : good_map m ≡ true) (fit : lengths_fit m s ≡ true) where
  good : Good m
  good = good-true m ok

  lengths : Fit m s
  lengths = fit-true m s fit

  pub heap-lengths : (length s.0 ≡ m.heap_size) × (length s.0 % m.segment ≡ 0) × (length s.0 ≤ 131072)
  heap-lengths = (lengths.0, rw lengths.0 good.heap_size_whole, rw lengths.0 good.heap_most)

  pub stack-lengths : (length s.1.0 ≡ m.stack_size) × (length s.1.1 ≡ m.stack_size) × (length s.1.0 ≤ 65536)
  stack-lengths = (lengths.1.0, lengths.1.1, rw lengths.1.0 good.stack_most)

  pub ends : (m.heap_start + m.heap_size ≤ 4294967295) × (m.stack_start + m.stack_size ≤ 4294967295)
  ends = (good.heap_end, good.stack_end)

  -- the position of an area's end is the length of its shadows
  pub heap-end : end_of (areas m) Heap - start_of (areas m) Heap ≡ length s.0
  unfolding start_of end_of
  heap-end = omega (arith, lengths.0)

  pub stack-end : end_of (areas m) Stack - start_of (areas m) Stack ≡ length s.1.0
  unfolding start_of end_of
  stack-end = omega (arith, lengths.1.0)

  -- an address of the heap
  pub heap-position : (a : ℕ) → area_of (areas m) a ≡ Heap → (m.heap_start ≤ a) × (a - m.heap_start < length s.0)
  heap-position a e =
      let h = within-true m.heap_start m.heap_size a (area-heap (areas m) a e) in
      (h.0, rw lengths.0 (omega arith))

  pub heap-there : (a p : ℕ) → area_of (areas m) a ≡ Heap → p ≡ a - m.heap_start → (p < length s.0) × (length s.0 % m.segment ≡ 0) × (length s.0 ≤ 131072)
  heap-there a p e q = (rw q (heap-position a e).1, heap-lengths.1, heap-lengths.2)

  pub read-heap : (a p : ℕ) → area_of (areas m) a ≡ Heap → p ≡ a - m.heap_start
      → (read_any (map_rules m) (shadow_ops m) s a ≡ reading_up m.heap_start (heap_reading m.width m.segment (length s.0) (at s.0) p)) × ((map_rules m).inside a ≡ true)
  unfolding read_any
  read-heap a p e q = rw (lengths.0, area-heap (areas m) a e, q) (refl, refl)

  -- an address of the stack
  pub stack-position : (a : ℕ) → area_of (areas m) a ≡ Stack → (m.stack_start ≤ a) × (a - m.stack_start < length s.1.0)
  stack-position a e =
      let h = within-true m.stack_start m.stack_size a (area-stack (areas m) a e).1 in
      (h.0, rw lengths.1.0 (omega arith))

  pub stack-there : (a p : ℕ) → area_of (areas m) a ≡ Stack → p ≡ a - m.stack_start
      → (p < length s.1.0) × (length s.1.0 ≡ length s.1.1) × (length s.1.0 ≤ 65536)
  stack-there a p e q = (rw q (stack-position a e).1, stack-lengths.0 ∙ sym stack-lengths.1, stack-lengths.2)

  pub read-stack : (a p : ℕ) → area_of (areas m) a ≡ Stack → p ≡ a - m.stack_start
      → (read_any (map_rules m) (shadow_ops m) s a ≡ reading_up m.stack_start (stack_reading (length s.1.0) (at s.1.0) (at s.1.1) p))
      × ((map_rules m).inside a ≡ true)
  unfolding read_any
  read-stack a p e q = let h = area-stack (areas m) a e in rw (lengths.1.0, h.0, h.1, q) (refl, refl)

-- an area starts at or below its end
pub start-end : (m : Map) (k : Area) → start_of m k ≤ end_of m k
unfolding start_of end_of
start-end m Heap = omega arith
start-end m Stack = omega arith
start-end m Outside = omega arith

-- an address of neither area
pub out-inside : (m : FormMap) (a : ℕ) → area_of (areas m) a ≡ Outside → (map_rules m).inside a ≡ false
out-inside m a e = let h = area-out (areas m) a e in rw h.0 h.1

pub read_out : (m : FormMap) (s : Shadows) (a : ℕ) → area_of (areas m) a ≡ Outside → (read_any (map_rules m) (shadow_ops m) s a ≡ nothing) × ((map_rules m).inside a ≡ false)
unfolding read_any
read_out m s a e = let i = out-inside m a e in (rw i refl, i)

-- C's null pointer is such an address
pub null-inside : (m : FormMap) → good_map m ≡ true → (map_rules m).inside 0 ≡ false
null-inside m ok = out-inside m 0 (zero-outside m ok)

-- ---- no literal lies in the heap

pub heap-literal : (W G size : ℕ) (f : ℕ → ℕ) (p : ℕ) → is_literal (heap_reading W G size f p) ≡ false
heap-literal W G size f p = go (heap_reading W G size f p) refl
  where
    go : (r : Reading) → heap_reading W G size f p ≡ r → is_literal r ≡ false
    go nothing e = refl
    go damaged e = refl
    go (block b l o w k) e = (heap.reading-told W G size f p b l o w k e).mark

-- ---- n bytes that lie in one block lie in its area

in_one_lem : (n : ℕ) (r : Reading) (P : Type 0) → ((b l o w : ℕ) (k : Bool) → r ≡ block b l o w k → o + n ≤ l → P) → in_one n r ≡ true → P
in_one_lem n nothing P f i = absurd (false≢true i)
in_one_lem n damaged P f i = absurd (false≢true i)
in_one_lem n (block b l o w k) P f i = f b l o w k refl (leb-true (o + n) l i)

pub heap-room : (W G size : ℕ) (f : ℕ → ℕ) (p n : ℕ) → in_one n (heap_reading W G size f p) ≡ true → p + n ≤ size
heap-room W G size f p n =
    in_one_lem n (heap_reading W G size f p) (p + n ≤ size) (λ b l o w k e h. let t = heap.reading-told W G size f p b l o w k e in omega arith)

pub stack-room : (size : ℕ) (f g : ℕ → ℕ) (p n : ℕ) → in_one n (stack_reading size f g p) ≡ true → p + n ≤ size
stack-room size f g p n =
    in_one_lem n (stack_reading size f g p) (p + n ≤ size) (λ b l o w k e h. let t = stack.reading-told size f g p b l o w k e in omega arith)
