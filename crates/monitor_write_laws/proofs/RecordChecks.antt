-- The check of a record: its number by areas, and what is known where that is 0. Assumes nothing.
use mathlib.Core.Path.{◌≡◌, refl, sym, ap, ◌∙◌}
use mathlib.Core.Bool.{Bool, true, false, cond, not, ◌&&◌}
use mathlib.Core.List.{[], ◌∷◌}
use mathlib.Core.Logic.{◌≢◌, ⊎_elim}
use Prim.Native.Nat.{ℕ, zero, suc, ◌-◌, ◌%◌, ◌≤◌}
use native.Mathlib.Omega.{arith}
use types.Run.{OneOf}
use denote.Enum.Declared.{tag_of}
use lib.ListN.{length}
use lib.Dec.{eqb}
use borrow.Author.Tests.{eqb-true, eqb-false}
use Rattle.number.proofs.TestLaws.{and-true, and_false_r}
use Rattle.map.specs.FormMap.{FormMap, areas}
use Rattle.map.specs.declared.Area.TheVariants as area
use Rattle.map.specs.Map.{good_map, area_of}
use Rattle.types.specs.declared.Beginning.{Beginning}
use Rattle.types.specs.declared.Beginning.TheVariants.{Unwritten, Written, Literal}
use Rattle.plain.specs.Block.{starts_literal, begun}
use Rattle.plain.specs.Rules.{Rules}
use Rattle.plain.specs.Ops.{Ops}
use Rattle.plain.specs.Areas.{map_rules}
use Rattle.plain.specs.Call.{Call, Answer, begin, record_block, refusal, done, allows}
use Rattle.plain.specs.ShadowCalls.{shadow_step}
use Rattle.types.specs.contracts.Beginning.{the_type}
use Rattle.plain.proofs.AreaLaws.{heap-span, stack-span}
use Rattle.plain.proofs.RunLaws.{unless-number}
use Rattle.shadows.specs.Shadows.{Shadows, lengths_fit, shadow_ops}
use Rattle.map.specs.Locating.{Lies}
use Rattle.monitor_base.specs.Calls.{call}
use Rattle.map.specs.declared.Located.{Located}
use Rattle.map.specs.declared.Located.TheVariants.{Heap, Stack, Outside}
use Rattle.monitor_base.proofs.LocatingLaws.{area-heap, heap-there, stack-there}
use Rattle.monitor_write_laws.specs.AreaCalls.{on_heap, on_stack}
use Rattle.monitor_write_laws.specs.Checks.{number_of, Stampable, stamped_at}
use Rattle.monitor_write_laws.proofs.StepLaws.{begin-3, begin-4}
use Rattle.monitor_write_laws.proofs.AtLaws.{begin-at}
use Rattle.monitor_write_laws.proofs.AreaLaws.{heap-at, stack_at, out-fits}
use Rattle.monitor_write_laws.proofs.CheckLaws.{told, number_step, number-good, call-refused, call-accepted}

-- ---- no refusal of the four holds

none_of : (e f a v : Bool) → ◌≡◌ {A = ℕ} (cond e 3 (cond (not f) 4 (cond (not a) 5 (cond (not v) 6 0)))) 0
    → (e ≡ false) × (f ≡ true) × (a ≡ true) × (v ≡ true)
none_of true f a v z = absurd (omega arith)
none_of false false a v z = absurd (omega arith)
none_of false true false v z = absurd (omega arith)
none_of false true true false z = absurd (omega arith)
none_of false true true true z = (refl, refl, refl, refl)

module _ {S : Type 0} (R : Rules) (O : Ops S) (s : S) (b l : ℕ) where
  -- by whether it may begin there
  abbrev numbered : Bool → ℕ
  numbered f = cond (eqb l 0) 3 (cond (not f) 4 (cond (not (R.aligned b)) 5 (cond (not (O.vacant s b l)) 6 0)))

  is-numbered : (how : Beginning) → told (shadow_step R O (begin how b l) s) ≡ numbered (allows R how b l)
  unfolding shadow_step
  is-numbered how = unless-number (numbered (allows R how b l)) s (O.stamp s (begun how b l), done) refl

  begin-none : (how : Beginning) → told (shadow_step R O (begin how b l) s) ≡ 0
      → (1 ≤ l) × (R.fits b l ≡ true) × (R.aligned b ≡ true) × (O.vacant s b l ≡ true)
  begin-none how z =
      let t = none_of (eqb l 0) (allows R how b l) (R.aligned b) (O.vacant s b l) (sym (is-numbered how) ∙ z) in
      (some (eqb-false l 0 t.0), (and-true (R.fits b l) (not (starts_literal how && R.heap b)) t.1).0, t.2, t.3)
    where
      some : l ≢ 0 → 1 ≤ l
      some n = omega arith

  -- how the block begins has no other part in the number
  same-told : (how other : Beginning) → allows R other b l ≡ allows R how b l
      → told (shadow_step R O (begin other b l) s) ≡ told (shadow_step R O (begin how b l) s)
  same-told how other e = is-numbered other ∙ ap numbered e ∙ sym (is-numbered how)

-- ---- a literal

-- what the place after the test for a literal knows: the tag of another case
pub no-literal : (how : Beginning) → OneOf (0 ∷ (1 ∷ [])) (tag_of the_type how) → starts_literal how ≡ false
no-literal Unwritten o = refl
no-literal Written o = refl
no-literal Literal o = absurd (⊎_elim (λ x. omega arith) (λ x. omega arith) o)

heap-misfits : (R : Rules) (b l : ℕ) → R.heap b ≡ true → allows R Literal b l ≡ false
heap-misfits R b l h = rw h (and_false_r (R.fits b l) false refl)

-- ---- a map and its shadows

module _ (m : FormMap) (s : Shadows) (b l : ℕ) (how : Beginning) where
  abbrev asked : Call
  asked = begin how b l

  module _ (ok : good_map m ≡ true) (fit : lengths_fit m s ≡ true) where
    pub record-3 : l ≡ 0 → 3 ≡ number_of m asked s
    record-3 e = number_step m asked s ok fit 3 (ap told (begin-3 (map_rules m) (shadow_ops m) s how b l e))

    pub record-4 : l ≢ 0 → area_of (areas m) b ≡ area.Outside → 4 ≡ number_of m asked s
    record-4 n o = number_step m asked s ok fit 4 (ap told (begin-4 (map_rules m) (shadow_ops m) s how b l n (rw (out-fits m b l o))))

    -- a literal does not begin in the heap
    pub literal-4 : l ≢ 0 → how ≡ Literal → area_of (areas m) b ≡ area.Heap → 4 ≡ number_of m asked s
    literal-4 n t e =
        number_step m asked s ok fit 4
        (ap told (begin-4 (map_rules m) (shadow_ops m) s how b l n (rw t (heap-misfits (map_rules m) b l (rw (area-heap (areas m) b e))))))

    module _ (p : ℕ) where
      heap-number : area_of (areas m) b ≡ area.Heap → p ≡ b - m.heap_start → told (on_heap m.width m.segment (begin how p l) s.0) ≡ number_of m asked s
      heap-number e q =
          number_step m asked s ok fit (told (on_heap m.width m.segment (begin how p l) s.0)) (ap told (begin-at _ _ s _ _ _ _ _ _ (heap-at m s ok fit b p e q) how l))

      stack-number : area_of (areas m) b ≡ area.Stack → p ≡ b - m.stack_start → told (on_stack (begin how p l) s.1) ≡ number_of m asked s
      stack-number e q =
          number_step m asked s ok fit (told (on_stack (begin how p l) s.1)) (ap told (begin-at _ _ s _ _ _ _ _ _ (stack_at m s ok fit b p e q) how l))

      -- where it may begin there, the number is that of any block
      pub record-heap : starts_literal how ≡ false → area_of (areas m) b ≡ area.Heap → p ≡ b - m.heap_start
          → told (on_heap m.width m.segment (record_block p l) s.0) ≡ number_of m asked s
      record-heap t e q = same-told _ _ s.0 p l how Unwritten (rw t) ∙ heap-number e q

      pub record-stack : area_of (areas m) b ≡ area.Stack → p ≡ b - m.stack_start → told (on_stack (record_block p l) s.1) ≡ number_of m asked s
      record-stack e q = same-told _ _ s.1 p l how Unwritten (rw (and_false_r (starts_literal how) false refl)) ∙ stack-number e q

  module _ (z : number_of m asked s ≡ 0) where
    good : (good_map m ≡ true) × (lengths_fit m s ≡ true)
    good = number-good m asked s refl z

    -- no record is accepted in neither area
    outside : area_of (areas m) b ≡ area.Outside → ⊥
    outside o = go l refl
      where
        go : (k : ℕ) → l ≡ k → ⊥
        go zero e = omega (arith, record-3 good.0 good.1 e, z)
        go (suc k) e = omega (arith, record-4 good.0 good.1 (λ n. omega arith) o, z)

    pub stampable : (x : Located) → Lies (areas m) b x → Stampable m.segment x l s
    stampable (Heap p) (e, q) =
        let t = begin-none _ _ s.0 p.0 l how (heap-number good.0 good.1 p.0 e q ∙ z) in
        let f = heap-span m.segment 0 (length s.0) p.0 l t.1 in
        let h = heap-there m s good.0 good.1 b p.0 e q in
        ((omega arith, eqb-true (p.0 % m.segment) 0 t.2, omega arith), (t.0, h.1, h.2))
    stampable (Stack p) (e, q) =
        let t = begin-none _ _ s.1 p.0 l how (stack-number good.0 good.1 p.0 e q ∙ z) in
        let f = stack-span 0 (length s.1.0) p.0 l t.1 in
        let h = stack-there m s good.0 good.1 b p.0 e q in
        (omega arith, h.1, h.2, t.0, t.3)
    stampable Outside o = outside o

    -- what the effect leaves is what the call leaves
    stamped-call : (x : Located) → Lies (areas m) b x → call m asked s ≡ (stamped_at m.width m.segment x how l s, done)
    stamped-call x y = call-accepted m asked s refl z ∙ ap (λ (t : Shadows). (t, done)) (go x y)
      where
        go : (x : Located) → Lies (areas m) b x → (shadow_ops m).stamp s (begun how b l) ≡ stamped_at m.width m.segment x how l s
        go (Heap p) (e, q) = (heap-at m s good.0 good.1 b p.0 e q).stamp how l
        go (Stack p) (e, q) = (stack_at m s good.0 good.1 b p.0 e q).stamp how l
        go Outside o = absurd (outside o)

  -- ---- the call, by the number that the check gave

  module _ (k : ℕ) (e : k ≡ number_of m asked s) where
    pub record-refused : k ≢ 0 → ◌≡◌ {A = Shadows × Answer} (s, refusal k) (call m asked s)
    record-refused n = sym (call-refused m asked s refl k e n)

    pub record-done : k ≡ 0 → (x : Located) → Lies (areas m) b x → (t : Shadows) → t ≡ stamped_at m.width m.segment x how l s → ◌≡◌ {A = Shadows × Answer} (t, refusal k) (call m asked s)
    record-done z x y t h = rw (z, h, stamped-call (sym e ∙ z) x y)
