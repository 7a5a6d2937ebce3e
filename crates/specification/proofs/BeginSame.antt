-- Under a good map every way to record is the one of the library's definition. Assumes nothing.
use mathlib.Core.Path.{◌≡◌, refl}
use mathlib.Core.Bool.{Bool, true, false, cond, not, ◌&&◌}
use mathlib.Core.List.{[], ◌∷◌}
use Prim.Native.Nat.{ℕ, ◌+◌, ◌*◌, ◌-◌, ◌/◌, ◌%◌, ◌≤◌}
use native.Mathlib.Omega.{arith}
use lib.Dec.{leb, eqb}
use Rattle.number.specs.Parts.{at}
use Rattle.number.proofs.PartLaws.{over-ext}
use Rattle.number.proofs.TestLaws.{Test, is_true, is_false, test, in-facts, in-true, and-true}
use Rattle.map.specs.declared.Map.{Map}
use Rattle.map.specs.declared.Form as kind
use Rattle.map.specs.FormMap.{under, number_size, segment_size}
use Rattle.map.specs.Map.{good_map}
use Rattle.types.specs.declared.Beginning.{Beginning}
use Rattle.plain.specs.Areas as areas
use Rattle.plain.specs.Areas.{map_rules}
use Rattle.plain.specs.Block.{Block, len, starts_literal, begun}
use Rattle.plain.specs.Call as plain
use Rattle.plain.specs.Layer.{layer}
use Rattle.plain.specs.Lift.{down}
use Rattle.plain.specs.Rules.{Rules}
use Rattle.heap_layout.specs.Image as image
use Rattle.heap_layout.specs.Ops.{heap_vacant, heap_stamp}
use Rattle.stack_layout.specs.Image as stack
use Rattle.stack_layout.specs.Ops.{stack_vacant, stack_stamp}
use Rattle.shadows.specs.Shadows.{lengths_fit, shadow_ops}
use Rattle.monitor_base.specs.Calls as base
use Rattle.specification.specs.Map.{Shadows, stack_end, in_heap, in_stack}
use Rattle.specification.specs.Stack.{primary_byte, secondary_byte}
use Rattle.specification.specs.Form.{Form}
use Rattle.specification.specs.Calls.{vacant, stamp, begin}
use Rattle.specification.proofs.Forms.{form, byte_by}
use Rattle.specification.proofs.MapSame.{good-same, lengths-same}
use Rattle.specification.proofs.BlocksSame.{begun-same}
use Rattle.specification.proofs.ListSame.{fits-same, aligned-same}
use Rattle.specification.proofs.ByteSame.{stands, one-heap, primary-same, secondary-same}

-- what a recording would leave matters only where the block is allowed and aligned
if-allowed : (t u v a i w : Bool) (s x y : Shadows) → (a ≡ true → i ≡ true → x ≡ y)
    → plain.unless (cond t 1 (cond u 2 (cond v 3 (cond (not a) 4 (cond (not i) 5 (cond w 6 0)))))) s (x, plain.done)
    ≡ plain.unless (cond t 1 (cond u 2 (cond v 3 (cond (not a) 4 (cond (not i) 5 (cond w 6 0)))))) s (y, plain.done)
if-allowed true u v a i w s x y e = refl
if-allowed false true v a i w s x y e = refl
if-allowed false false true a i w s x y e = refl
if-allowed false false false false i w s x y e = refl
if-allowed false false false true false w s x y e = refl
if-allowed false false false true true w s x y e = rw (e refl refl)

module _ (f : kind.Form) (m : Map) (s : Shadows) where
  abbrev F : Form
  F = form f

  abbrev G : ℕ
  G = segment_size f

  abbrev R : Rules
  R = map_rules (under f m)

  vacant-same : (b l : ℕ) → vacant F m s b l ≡ (shadow_ops (under f m)).vacant s b l
  unfolding vacant heap_vacant stack_vacant areas.place_length areas.segments
  vacant-same b l = let e : b - G - m.heap_start ≡ b - m.heap_start - G = omega arith in rw e

  stamp-heap : (b : Block) → in_heap m b.base ≡ true → m.heap_start ≤ b.base → (b.base - m.heap_start) % G ≡ 0 → G ≤ b.base - m.heap_start
      → stamp F m s b ≡ (shadow_ops (under f m)).stamp s b
  unfolding stamp heap_stamp areas.place_length areas.segments
  stamp-heap b h l w r =
      let S : ℕ = m.heap_start in
      let n : ℕ = (len b + (G - 1)) / G * G in
      let e : b.base - G - S ≡ b.base - S - G = omega arith in
      rw (
        h,
        e,
        over-ext (b.base - S - G) (G + n) (λ q. byte_by f b (S + q)) (image.heap_byte (number_size f) G (down S b ∷ [])) s.0
            (λ q x y. rw (in-true (b.base - G) (b.base + n) (S + q) (omega arith) (omega arith)) at (one-heap f S b q l w r [])),
      )

  stamp-stack : (b : Block) → in_heap m b.base ≡ false → m.stack_start ≤ b.base → stamp F m s b ≡ (shadow_ops (under f m)).stamp s b
  unfolding stamp stack_stamp layer
  stamp-stack b h l =
      let S : ℕ = m.stack_start in
      let B : ℕ = b.base - S in
      rw (
        h,
        over-ext B (len b) (λ q. primary_byte b (S + q)) (stack.primary_byte (down S b ∷ [])) s.1.0 (λ q x y. rw (in-true B (B + len b) q x y) (primary-same S b q l)),
        over-ext B (len b) (λ q. secondary_byte b (S + q)) (stack.secondary_byte (down S b ∷ [])) s.1.1 (λ q x y. rw (in-true B (B + len b) q x y) (secondary-same S b q l)),
      )

  stamp-same : good_map (under f m) ≡ true → (b : Block) (l : ℕ) → R.fits b.base l ≡ true → R.aligned b.base ≡ true → stamp F m s b ≡ (shadow_ops (under f m)).stamp s b
  stamp-same g b l k a = go (test (in_heap m b.base))
    where
      go : Test (in_heap m b.base) → stamp F m s b ≡ (shadow_ops (under f m)).stamp s b
      go (is_true h) = let (x, y, z) = stands f m g b.base l h k a in stamp-heap b h x y z
      go (is_false h) = let (_, y) = and-true (leb (b.base + l) (stack_end m)) (in_stack m b.base) (rw h at k) in stamp-stack b h (in-facts m.stack_start (stack_end m) b.base y).0

  pub begin-same : good_map (under f m) ≡ true → (how : Beginning) (b l : ℕ) → begin F m how b l s ≡ base.call (under f m) (plain.begin how b l) s
  unfolding begin base.call
  begin-same g how b l =
      rw (good-same f m, lengths-same f m s, fits-same f m (starts_literal how) b l, aligned-same f m b, vacant-same b l, begun-same how b l)
      (if-allowed (not (good_map (under f m))) (not (lengths_fit (under f m) s)) (eqb l 0) (plain.allows R how b l) (R.aligned b) (not ((shadow_ops (under f m)).vacant s b l)) s _ _
      (λ a i. stamp-same g (begun how b l) l (and-true (R.fits b l) (not (starts_literal how && R.heap b)) a).0 i))
