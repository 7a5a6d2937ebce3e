-- The checks of a free and of a remove: what the call comes to by the area of its address, and what is known of a block that was found. Assumes nothing.
use mathlib.Core.Path.{◌≡◌, refl, sym, ap, ◌∙◌}
use mathlib.Core.Bool.{true}
use mathlib.Core.Logic.{◌≢◌}
use Prim.Native.Nat.{ℕ, zero, suc}
use native.Mathlib.Omega.{arith}
use lib.ListN.{length}
use Rattle.std.specs.Prelude.{Option, Some, Result, Ok, Err}
use borrow.Author.Tests.{ne_eqb}
use Rattle.number.specs.Parts.{at}
use Rattle.number.proofs.TestLaws.{and_false_r}
use Rattle.map.specs.FormMap.{FormMap, areas}
use Rattle.map.specs.declared.Area.{Area}
use Rattle.map.specs.declared.Area.TheVariants as area
use Rattle.map.specs.declared.Position.{Position}
use Rattle.map.specs.Map.{good_map, area_of}
use Rattle.map.proofs.MapLaws.{zero-outside}
use Rattle.plain.specs.Areas.{map_rules}
use Rattle.plain.specs.Reading.{Reading, nothing, block, damaged}
use Rattle.plain.specs.Lift.{reading_up}
use Rattle.plain.specs.Call.{Answer, free, remove, refusal}
use Rattle.plain.specs.ShadowCalls.{length_of}
use Rattle.heap_layout.specs.Ops.{heap_erase}
use Rattle.heap_layout.specs.Reading.{heap_reading}
use Rattle.stack_layout.specs.Reading.{stack_reading}
use Rattle.shadows.specs.Shadows.{Shadows, lengths_fit, shadow_ops}
use Rattle.map.specs.Locating.{Lies}
use Rattle.monitor_base.specs.Calls.{call}
use Rattle.map.specs.declared.Located.TheVariants.{Heap, Stack}
use Rattle.monitor_base.specs.declared.Block.{Block}
use Rattle.monitor_base.specs.declared.Refusal.{Refusal}
use Rattle.monitor_base.proofs.CallLaws.{call_step}
use Rattle.monitor_base.proofs.LocatingLaws.{heap-there, stack-there, read-heap, read-stack, out-inside}
use Rattle.monitor_write_laws.specs.Checks.{ending_of, ended_by, freed_by, removed_by, block_length, Freeable, Removable}
use Rattle.monitor_write_laws.proofs.StepLaws.{free-reads, free-4, free-15, free-null, remove-reads, remove-4}
use Rattle.monitor_write_laws.proofs.AtLaws.{there, ended_at}
use Rattle.monitor_write_laws.proofs.AreaLaws.{heap-at, stack_at, heap-first, stack-first}

-- a block is as long wherever its area starts
up-length : (start : ℕ) (r : Reading) → length_of (reading_up start r) ≡ length_of r
up-length start nothing = refl
up-length start (block b l o w t) = refl
up-length start damaged = refl

-- a free that found a block to erase, or why none may end
abbrev pub found : Result Block Refusal → Result (Option Block) Refusal
found (Ok b) = Ok (Some b)
found (Err r) = Err r

freed-found : (W G : ℕ) (s : Shadows) (r : Result Block Refusal) → ended_by (λ p l. (heap_erase W G s.0 p l, s.1)) s r ≡ freed_by W G s (found r)
freed-found W G s (Ok b) = refl
freed-found W G s (Err r) = refl

module _ (m : FormMap) (s : Shadows) (a : ℕ) (ok : good_map m ≡ true) (fit : lengths_fit m s ≡ true) where
  abbrev heap_read : (p : ℕ) → Reading
  heap_read p = heap_reading m.width m.segment (length s.0) (at s.0) p

  abbrev stack_read : (p : ℕ) → Reading
  stack_read p = stack_reading (length s.1.0) (at s.1.0) (at s.1.1) p

  -- ---- free

  -- C's null pointer
  pub null-freed : a ≡ 0 → ◌≡◌ {A = Shadows × Answer} (s, refusal 0) (call m (free a) s)
  null-freed e = sym (call_step m (free a) s ok fit ∙ free-null (map_rules m) (shadow_ops m) s a e)

  pub outside-freed : a ≢ 0 → area_of (areas m) a ≡ area.Outside → ◌≡◌ {A = Shadows × Answer} (s, refusal 4) (call m (free a) s)
  outside-freed n o = sym (call_step m (free a) s ok fit ∙ free-4 (map_rules m) (shadow_ops m) s a n (out-inside m a o))

  -- which lies in neither area
  no-null : (k : Area) → area_of (areas m) a ≡ k → k ≢ area.Outside → a ≢ 0
  no-null k e n z = n (sym e ∙ ap (area_of (areas m)) z ∙ zero-outside m ok)

  pub stack-freed : (p : Position) → Lies (areas m) a (Stack p) → ◌≡◌ {A = Shadows × Answer} (s, refusal 15) (call m (free a) s)
  stack-freed p (e, q) =
      let i = stack_at m s ok fit a p.0 e q in
      sym (call_step m (free a) s ok fit
      ∙ free-15 (map_rules m) (shadow_ops m) s a (no-null area.Stack e (λ z. let c : ◌≡◌ {A = ℕ} 0 1 = cc in omega arith)) i.inside i.heap)

  pub heap-freed : (p : Position) → Lies (areas m) a (Heap p) → freed_by m.width m.segment s (found (ending_of (heap_read p.0) p)) ≡ call m (free a) s
  heap-freed p (e, q) =
      let i = heap-at m s ok fit a p.0 e q in
      sym (call_step m (free a) s ok fit
      ∙ free-reads (map_rules m) (shadow_ops m) s a (no-null area.Heap e (λ z. let c : ◌≡◌ {A = ℕ} 0 1 = cc in omega arith)) i.inside i.heap _ (there _ _ _ _ _ _ _ _ _ i)
      ∙ ended_at _ _ _ _ _ _ _ _ _ i p refl (heap_read p.0)
      ∙ freed-found m.width m.segment s (ending_of (heap_read p.0) p))

  pub freeable : (p : Position) → Lies (areas m) a (Heap p) → Freeable m s a (found (ending_of (heap_read p.0) p))
  freeable p (e, q) = go (heap_read p.0) refl
    where
      go : (r : Reading) → heap_read p.0 ≡ r → Freeable m s a (found (ending_of r p))
      go nothing h = λ z. omega arith
      go damaged h = λ z. omega arith
      go (block b l (suc o) w k) h = rw (ne_eqb (suc o) 0 (omega arith)) (λ z. omega arith)
      go (block b l zero w k) h =
          let t = heap-first m.width m.segment (length s.0) (at s.0) p.0 b l w k h in
          let u = heap-there m s ok fit a p.0 e q in
          let long : l ≡ block_length m s a =
          sym (ap length_of (read-heap m s ok fit a p.0 e q).0 ∙ up-length m.heap_start (heap_read p.0) ∙ ap length_of h) in
          (((e, q), long), (t.0, t.1, t.2), (t.3, u.1, u.2))

  -- ---- remove

  pub outside-removed : area_of (areas m) a ≡ area.Outside → ◌≡◌ {A = Shadows × Answer} (s, refusal 4) (call m (remove a) s)
  outside-removed o = sym (call_step m (remove a) s ok fit ∙ remove-4 (map_rules m) (shadow_ops m) s a (rw (out-inside m a o)))

  pub heap-removed : (p : Position) → Lies (areas m) a (Heap p) → ◌≡◌ {A = Shadows × Answer} (s, refusal 4) (call m (remove a) s)
  heap-removed p (e, q) =
      let i = heap-at m s ok fit a p.0 e q in
      sym (call_step m (remove a) s ok fit ∙ remove-4 (map_rules m) (shadow_ops m) s a (rw i.heap (and_false_r ((map_rules m).inside a) _ refl)))

  pub stack-removed : (p : Position) → Lies (areas m) a (Stack p) → removed_by s (ending_of (stack_read p.0) p) ≡ call m (remove a) s
  stack-removed p (e, q) =
      let i = stack_at m s ok fit a p.0 e q in
      sym (call_step m (remove a) s ok fit
      ∙ remove-reads (map_rules m) (shadow_ops m) s a i.inside i.heap _ (there _ _ _ _ _ _ _ _ _ i)
      ∙ ended_at _ _ _ _ _ _ _ _ _ i p refl (stack_read p.0))

  pub removable : (p : Position) → Lies (areas m) a (Stack p) → Removable m s a (ending_of (stack_read p.0) p)
  removable p (e, q) = go (stack_read p.0) refl
    where
      go : (r : Reading) → stack_read p.0 ≡ r → Removable m s a (ending_of r p)
      go nothing h = λ z. omega arith
      go damaged h = λ z. omega arith
      go (block b l (suc o) w k) h = rw (ne_eqb (suc o) 0 (omega arith)) (λ z. omega arith)
      go (block b l zero w k) h =
          let u = stack-there m s ok fit a p.0 e q in
          let long : l ≡ block_length m s a =
          sym (ap length_of (read-stack m s ok fit a p.0 e q).0 ∙ up-length m.stack_start (stack_read p.0) ∙ ap length_of h) in
          (((e, q), long), (stack-first (length s.1.0) (at s.1.0) (at s.1.1) p.0 b l w k h, u.1, u.2))
