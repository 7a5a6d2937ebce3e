-- The check of a mark of written bytes: its number by areas, and what is known where that is 0. Assumes nothing.
use mathlib.Core.Path.{◌≡◌, refl, sym, ap, subst, ◌∙◌}
use mathlib.Core.Bool.{true, false}
use mathlib.Core.Logic.{◌≢◌}
use Prim.Native.Nat.{ℕ, zero, suc, ◌-◌}
use native.Mathlib.Omega.{arith}
use lib.ListN.{length}
use Rattle.number.specs.Parts.{at}
use Rattle.map.specs.FormMap.{FormMap, areas}
use Rattle.map.specs.declared.Area.TheVariants as area
use Rattle.map.specs.Map.{good_map, area_of}
use Rattle.plain.specs.Areas.{map_rules}
use Rattle.plain.specs.Reading.{Reading, nothing, block, damaged}
use Rattle.plain.specs.Lift.{reading_up}
use Rattle.plain.specs.Ops.{mark_range, read_any}
use Rattle.plain.specs.Call.{Answer, written, refusal, done}
use Rattle.plain.specs.ShadowCalls.{in_one, is_literal}
use Rattle.plain.proofs.RunLaws.{unless-number}
use Rattle.heap_layout.specs.Reading.{heap_reading}
use Rattle.stack_layout.specs.Reading.{stack_reading}
use Rattle.shadows.specs.Shadows.{Shadows, lengths_fit, shadow_ops}
use Rattle.map.specs.Locating.{Lies}
use Rattle.monitor_base.specs.Calls.{call}
use Rattle.map.specs.declared.Located.{Located}
use Rattle.map.specs.declared.Located.TheVariants.{Heap, Stack, Outside}
use Rattle.monitor_base.proofs.LocatingLaws.{heap-there, read-heap, read-stack, out-inside, heap-literal, heap-room, stack-room}
use Rattle.monitor_write_laws.specs.AreaCalls.{written_refusal}
use Rattle.monitor_write_laws.specs.Checks.{number_of, Idle, Markable, marked_at}
use Rattle.monitor_write_laws.proofs.StepLaws.{written-3, written_4, written-reads}
use Rattle.monitor_write_laws.proofs.AtLaws.{written-passed}
use Rattle.monitor_write_laws.proofs.AreaLaws.{heap-at, stack_at}
use Rattle.monitor_write_laws.proofs.CheckLaws.{told, number_step, number-good, call-refused, call-accepted}

-- a reading gives the same number wherever its area starts
up-refusal : (start n : ℕ) (r : Reading) → written_refusal true n (reading_up start r) ≡ written_refusal true n r
up-refusal start n nothing = refl
up-refusal start n (block b l o w t) = refl
up-refusal start n damaged = refl

-- in an area that cannot hold a literal the mark has no part in it
no-mark : (n : ℕ) (r : Reading) → is_literal r ≡ false → written_refusal false n r ≡ written_refusal true n r
no-mark n r e = rw e

module _ (m : FormMap) (s : Shadows) (a n : ℕ) where
  abbrev heap_read : (p : ℕ) → Reading
  heap_read p = heap_reading m.width m.segment (length s.0) (at s.0) p

  abbrev stack_read : (p : ℕ) → Reading
  stack_read p = stack_reading (length s.1.0) (at s.1.0) (at s.1.1) p

  module _ (ok : good_map m ≡ true) (fit : lengths_fit m s ≡ true) where
    pub written-number-3 : n ≡ 0 → 3 ≡ number_of m (written a n) s
    written-number-3 e = number_step m (written a n) s ok fit 3 (ap told (written-3 (map_rules m) (shadow_ops m) s a n e))

    module _ (some : n ≢ 0) where
      pub written-number-4 : area_of (areas m) a ≡ area.Outside → 4 ≡ number_of m (written a n) s
      written-number-4 o = number_step m (written a n) s ok fit 4 (ap told (written_4 (map_rules m) (shadow_ops m) s a n some (out-inside m a o)))

      -- an address of an area, by its reading
      by-reading : (r : Reading) → (map_rules m).inside a ≡ true → read_any (map_rules m) (shadow_ops m) s a ≡ r → written_refusal true n r ≡ number_of m (written a n) s
      by-reading r i e =
          number_step m (written a n) s ok fit (written_refusal true n r)
          (ap told (written-reads (map_rules m) (shadow_ops m) s a i r e n some) ∙ unless-number (written_refusal true n r) s (mark_range (shadow_ops m) s a n, done) refl)

      module _ (p : ℕ) where
        pub written-heap : area_of (areas m) a ≡ area.Heap → p ≡ a - m.heap_start → written_refusal false n (heap_read p) ≡ number_of m (written a n) s
        written-heap e q =
            let r = read-heap m s ok fit a p e q in
            no-mark n (heap_read p) (heap-literal m.width m.segment (length s.0) (at s.0) p)
            ∙ sym (up-refusal m.heap_start n (heap_read p))
            ∙ by-reading (reading_up m.heap_start (heap_read p)) r.1 r.0

        pub written-stack : area_of (areas m) a ≡ area.Stack → p ≡ a - m.stack_start → written_refusal true n (stack_read p) ≡ number_of m (written a n) s
        written-stack e q =
            let r = read-stack m s ok fit a p e q in
            sym (up-refusal m.stack_start n (stack_read p)) ∙ by-reading (reading_up m.stack_start (stack_read p)) r.1 r.0

  -- ---- the number is 0

  module _ (z : number_of m (written a n) s ≡ 0) where
    good : (good_map m ≡ true) × (lengths_fit m s ≡ true)
    good = number-good m (written a n) s refl z

    some : n ≢ 0
    some e = omega (arith, written-number-3 good.0 good.1 e, z)

    outside : area_of (areas m) a ≡ area.Outside → ⊥
    outside o = omega (arith, written-number-4 good.0 good.1 some o, z)

    in-heap : (p : ℕ) → area_of (areas m) a ≡ area.Heap → p ≡ a - m.heap_start → in_one n (heap_read p) ≡ true
    in-heap p e q = written-passed false n (heap_read p) (written-heap good.0 good.1 some p e q ∙ z)

    in_stack : (p : ℕ) → area_of (areas m) a ≡ area.Stack → p ≡ a - m.stack_start → in_one n (stack_read p) ≡ true
    in_stack p e q = written-passed true n (stack_read p) (written-stack good.0 good.1 some p e q ∙ z)

    markable-0 : (x : Located) → Lies (areas m) a x → Markable m.segment x n s.0 s.1.0
    markable-0 (Heap p) (e, q) =
        let h = heap-there m s good.0 good.1 a p.0 e q in
        (heap-room m.width m.segment (length s.0) (at s.0) p.0 n (in-heap p.0 e q), h.1, h.2)
    markable-0 (Stack p) (e, q) = stack-room (length s.1.0) (at s.1.0) (at s.1.1) p.0 n (in_stack p.0 e q)
    markable-0 Outside o = tt

    -- what the effect leaves is what the call leaves
    marked-call : (x : Located) → Lies (areas m) a x → call m (written a n) s ≡ (marked_at m.width m.segment x n s, done)
    marked-call x y = call-accepted m (written a n) s refl z ∙ ap (λ (t : Shadows). (t, done)) (go x y)
      where
        go : (x : Located) → Lies (areas m) a x → mark_range (shadow_ops m) s a n ≡ marked_at m.width m.segment x n s
        go (Heap p) (e, q) = (heap-at m s good.0 good.1 a p.0 e q).mark n (in-heap p.0 e q)
        go (Stack p) (e, q) = (stack_at m s good.0 good.1 a p.0 e q).mark n (in_stack p.0 e q)
        go Outside o = absurd (outside o)

  -- ---- what the check gave: the number, and a place that is idle where the number is not 0

  pub markable : (k : ℕ) → k ≡ number_of m (written a n) s → (x : Located) → (k ≡ 0 → Lies (areas m) a x) → Idle k x → Markable m.segment x n s.0 s.1.0
  markable zero e x f i = markable-0 (sym e) x (f refl)
  markable (suc k) e x f i = rw (i (λ z. omega arith)) tt

  pub written-call : (k : ℕ) → k ≡ number_of m (written a n) s → (x : Located) → (k ≡ 0 → Lies (areas m) a x) → Idle k x
      → (t : Shadows) → t ≡ marked_at m.width m.segment x n s → ◌≡◌ {A = Shadows × Answer} (t, refusal k) (call m (written a n) s)
  written-call zero e x f i t h = rw (h, marked-call (sym e) x (f refl))
  written-call (suc k) e x f i t h = rw (h, i (λ z. omega arith)) (sym (call-refused m (written a n) s refl (suc k) e (λ z. omega arith)))

  -- an area's place x, which is what the check found where the number k is 0
  pub area-found : (k : ℕ) → k ≡ number_of m (written a n) s → (x : Located) → Lies (areas m) a x → (j : ℕ) → j ≡ k → (y : Located) → (k ≡ 0 → y ≡ x) → Idle k y
      → (j ≡ number_of m (written a n) s) × (j ≡ 0 → Lies (areas m) a y) × Idle j y × Markable m.segment y n s.0 s.1.0
  area-found k e x lies j q y f idle =
      let i : j ≡ number_of m (written a n) s = q ∙ e in
      let t : j ≡ 0 → Lies (areas m) a y = λ z. subst (λ x. Lies (areas m) a x) (sym (f (sym q ∙ z))) lies in
      let o : Idle j y = λ z. idle (λ w. z (q ∙ w)) in
      (i, t, o, markable j i y t o)
