-- The three shadows of a map: their lengths, the operations on them by addresses, and the image of a list of blocks. Assumes nothing.
use Rattle.std.specs.Prelude.{Bool, cond, ◌&&◌, List, [], map, ℕ, ◌-◌, length, replicate, eqb}
use Rattle.number.specs.Parts.{at}
use Rattle.map.specs.FormMap.{FormMap}
use Rattle.map.specs.Map.{within}
use Rattle.plain.specs.Block.{Block}
use Rattle.plain.specs.Areas.{heap_rules, stack_rules}
use Rattle.plain.specs.Ops.{Ops}
use Rattle.plain.specs.Lift.{lift_ops, downs}
use Rattle.plain.specs.Join.{join_ops, join_image}
use Rattle.heap_layout.specs.Image.{heap_image}
use Rattle.heap_layout.specs.Ops.{heap_ops}
use Rattle.heap_layout.specs.Reading.{heap_looks}
use Rattle.stack_layout.specs.Image.{stack_image}
use Rattle.stack_layout.specs.Ops.{stack_ops}
use Rattle.stack_layout.specs.Reading as stack
use Rattle.stack_layout.specs.Reading.{stack_looks}
pub use Rattle.types.specs.Shadows.{Shadows}

-- each shadow is as long as its area
unfoldable pub lengths_fit : FormMap → Shadows → Bool
lengths_fit m s = eqb (length s.0) m.heap_size && eqb (length s.1.0) m.stack_size && eqb (length s.1.1) m.stack_size

-- cleared shadows: all zeros, each as long as its area
abbrev pub zero_shadows : FormMap → Shadows
zero_shadows m = (replicate m.heap_size 0, (replicate m.stack_size 0, replicate m.stack_size 0))

-- the heap layout with the form's numbers and segments, and the stack layout, each from its area's start on
abbrev pub shadow_ops : FormMap → Ops Shadows
shadow_ops m =
    join_ops (heap_rules m.segment m.heap_start m.heap_size) (lift_ops m.heap_start (heap_ops m.width m.segment m.heap_size))
    (lift_ops m.stack_start (stack_ops m.stack_size))

-- the image of a list of blocks in address order: the heap's blocks in the heap shadow, the stack's in the other two
abbrev pub image : FormMap → List Block → Shadows
image m =
    join_image (heap_rules m.segment m.heap_start m.heap_size) (stack_rules m.stack_start m.stack_size)
    (λ bs. heap_image m.width m.segment m.heap_size (downs m.heap_start bs)) (λ bs. stack_image m.stack_size (downs m.stack_start bs))

-- a byte of the three shadows
pub data Place : Type 0 where
  heap : (position : ℕ) → Place
  primary : (position : ℕ) → Place
  secondary : (position : ℕ) → Place

abbrev pub byte_at : Shadows → Place → ℕ
byte_at s (heap q) = at s.0 q
byte_at s (primary q) = at s.1.0 q
byte_at s (secondary q) = at s.1.1 q

abbrev pub stack_place : stack.Place → Place
stack_place (stack.primary q) = primary q
stack_place (stack.secondary q) = secondary q

-- the shadow bytes that matter to the reading of an address: in the heap those of a number, those of another that the first tells, and one; in
-- the stack one, and eight chosen by it
abbrev pub looks : FormMap → Shadows → (a : ℕ) → List Place
looks m s a =
    cond (within m.heap_start m.heap_size a) (map heap (heap_looks m.width m.segment (at s.0) (a - m.heap_start)))
    (cond (within m.stack_start m.stack_size a) (map stack_place (stack_looks (at s.1.0) (a - m.stack_start))) [])
