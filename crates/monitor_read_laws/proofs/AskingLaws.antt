-- The call that tells of an address, by its reading in the area that it lies in. Assumes nothing.
use mathlib.Core.Path.{◌≡◌, sym, ◌∙◌}
use mathlib.Core.Bool.{true}
use mathlib.Core.List.{List}
use Prim.Native.Nat.{ℕ, ◌-◌, ◌/◌, ◌%◌}
use native.Mathlib.Omega.{arith}
use lib.ListN.{length}
use lib.Dec.{eqb}
use Rattle.number.specs.Parts.{at}
use Rattle.map.specs.FormMap.{FormMap, areas}
use Rattle.map.specs.declared.Area.TheVariants as area
use Rattle.map.specs.declared.Position.{Position}
use Rattle.map.specs.Map.{good_map, area_of}
use Rattle.plain.specs.Answers.{reading_of}
use Rattle.plain.specs.Areas.{map_rules}
use Rattle.plain.specs.Call.{ask, refusal}
use Rattle.plain.specs.Lift.{reading_up}
use Rattle.plain.specs.Ops.{read_any}
use Rattle.plain.specs.Reading.{Reading, nothing, block, damaged}
use Rattle.plain.specs.ShadowCalls.{shadow_step}
use Rattle.plain.specs.declared.Reading as code
use Rattle.plain.specs.declared.Reading.TheVariants as case
use Rattle.heap_layout.specs.Reading.{heap_reading}
use Rattle.heap_layout.proofs.ReadingLaws as heap
use Rattle.stack_layout.specs.Reading.{stack_reading}
use Rattle.stack_layout.proofs.ReadingLaws as stack
use Rattle.shadows.specs.Shadows.{Shadows, lengths_fit, shadow_ops}
use Rattle.monitor_base.specs.Calls.{call}
use Rattle.map.specs.Locating.{Lies}
use Rattle.map.specs.declared.Located.{Located}
use Rattle.map.specs.declared.Located.TheVariants.{Heap, Stack, Outside}
use Rattle.monitor_base.proofs.CallLaws.{call_step}
use Rattle.monitor_base.proofs.LocatingLaws.{heap-lengths, stack-lengths, ends, heap-there, stack-there, read-heap, read-stack, read_out}
use Rattle.monitor_read_laws.specs.Asked.{There, reading_at, ask_reading, base_below}

pub same-there : (G : ℕ) (l k : Located) (h p s : List ℕ) → l ≡ k → There G l h p s → There G k h p s
same-there G l k h p s e t = rw e at t

-- ---- a reading that is taken in the arm of its area

-- the address lies at l, and this is the reading there
abbrev pub ReadAt : FormMap → Shadows → ℕ → Located → code.Reading → Type 0
ReadAt m s a l r = Lies (areas m) a l × (reading_of r ≡ reading_at m.width m.segment l s.0 s.1.0 s.1.1)

module _ (m : FormMap) (s : Shadows) (a : ℕ) (l k : Located) (x y : code.Reading) (lies : Lies (areas m) a k) (taken : x ≡ y) where
  pub heap-arm : (q : Position) → k ≡ Heap q → l ≡ Heap q → reading_of y ≡ heap_reading m.width m.segment (length s.0) (at s.0) q.0
      → ReadAt m s a l x × (l ≡ Outside → ⊥)
  heap-arm q e f r = ((rw f (rw e at lies), rw (taken, f) r), λ o. let z : ◌≡◌ {A = ℕ} 0 1 = cc in omega arith)

  pub stack-arm : (q : Position) → k ≡ Stack q → l ≡ Stack q → reading_of y ≡ stack_reading (length s.1.0) (at s.1.0) (at s.1.1) q.0
      → ReadAt m s a l x × (l ≡ Outside → ⊥)
  stack-arm q e f r = ((rw f (rw e at lies), rw (taken, f) r), λ o. let z : ◌≡◌ {A = ℕ} 0 1 = cc in omega arith)

  pub other_arm : k ≡ Outside → l ≡ Outside → y ≡ case.Nothing → ReadAt m s a l x
  other_arm e f r = (rw f (rw e at lies), rw (taken, f, r))

-- ---- the call

module _ (m : FormMap) (s : Shadows) (ok : good_map m ≡ true) (fit : lengths_fit m s ≡ true) where
  ask-inside : (a : ℕ) (r : Reading) → (read_any (map_rules m) (shadow_ops m) s a ≡ r) × ((map_rules m).inside a ≡ true)
      → shadow_step (map_rules m) (shadow_ops m) (ask a) s ≡ (s, ask_reading r)
  unfolding shadow_step
  ask-inside a nothing (e, i) = rw (i, e)
  ask-inside a (block b l o w t) (e, i) = rw (i, e)
  ask-inside a damaged (e, i) = rw (i, e)

  abbrev read : Located → Reading
  read l = reading_at m.width m.segment l s.0 s.1.0 s.1.1

  -- the address lies in one of the areas
  pub ask-heap : (a : ℕ) (q : Position) → Lies (areas m) a (Heap q) → (r : Reading) → r ≡ read (Heap q) → call m (ask a) s ≡ (s, ask_reading (reading_up m.heap_start r))
  ask-heap a q e r er = call_step m (ask a) s ok fit ∙ rw er (ask-inside a _ (read-heap m s ok fit a q.0 e.0 e.1))

  pub ask-stack : (a : ℕ) (q : Position) → Lies (areas m) a (Stack q) → (r : Reading) → r ≡ read (Stack q) → call m (ask a) s ≡ (s, ask_reading (reading_up m.stack_start r))
  ask-stack a q e r er = call_step m (ask a) s ok fit ∙ rw er (ask-inside a _ (read-stack m s ok fit a q.0 e.0 e.1))

  pub ask_out : (a : ℕ) → area_of (areas m) a ≡ area.Outside → call m (ask a) s ≡ (s, refusal 4)
  unfolding shadow_step
  ask_out a e = call_step m (ask a) s ok fit ∙ rw (read_out m s a e).1

  -- ---- where it lies there is a reading, whose block begins where 32 bits can tell its address

  pub there : (a : ℕ) (l : Located) → Lies (areas m) a l → There m.segment l s.0 s.1.0 s.1.1
  there a (Heap q) e = heap-there m s ok fit a q.0 e.0 e.1
  there a (Stack q) e = stack-there m s ok fit a q.0 e.0 e.1
  there a Outside e = tt

  pub there-as : (a : ℕ) (l k : Located) → Lies (areas m) a l → l ≡ k → There m.segment k s.0 s.1.0 s.1.1
  there-as a l k e f = same-there m.segment l k s.0 s.1.0 s.1.1 f (there a l e)

  pub heap-base : (q : Position) (r : code.Reading) → reading_of r ≡ read (Heap q) → base_below r (4294967296 - m.heap_start)
  heap-base q case.Nothing e = tt
  heap-base q case.Damaged e = tt
  heap-base q (case.Block b l o n) e =
      let t = heap.reading-told m.width m.segment (length s.0) (at s.0) q.0 b.0 l o (n % 2) (eqb (n / 2 % 2) 1) (sym e) in
      omega (arith, t.fits, (heap-lengths m s ok fit).0, (ends m s ok fit).0)

  pub stack-base : (q : Position) (r : code.Reading) → reading_of r ≡ read (Stack q) → base_below r (4294967296 - m.stack_start)
  stack-base q case.Nothing e = tt
  stack-base q case.Damaged e = tt
  stack-base q (case.Block b l o n) e =
      let t = stack.reading-told (length s.1.0) (at s.1.0) (at s.1.1) q.0 b.0 l o (n % 2) (eqb (n / 2 % 2) 1) (sym e) in
      omega (arith, t.fits, (stack-lengths m s ok fit).0, (ends m s ok fit).1)
