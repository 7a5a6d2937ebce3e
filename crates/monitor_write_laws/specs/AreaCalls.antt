-- One call on the shadows of one area, by positions; what a reading decides. Assumes nothing.
use Rattle.std.specs.Prelude.{Bool, not, ◌&&◌, List, [], ◌∷◌, ℕ, length}
use Rattle.plain.specs.Areas.{heap_rules, stack_rules}
use Rattle.plain.specs.Reading.{Reading}
use Rattle.plain.specs.Call.{Call, Answer, first_of}
use Rattle.plain.specs.ShadowCalls.{is_damaged, in_one, is_literal, shadow_step}
use Rattle.heap_layout.specs.Ops.{heap_ops}
use Rattle.stack_layout.specs.Ops.{StackShadows, stack_ops}

-- the number that a reading decides of the first of n bytes that are to be written, in an area that may hold literals, or in one that cannot
abbrev pub written_refusal : (literals : Bool) (n : ℕ) → Reading → ℕ
written_refusal t n r = first_of ((8, is_damaged r) ∷ (7, not (in_one n r)) ∷ (13, t && is_literal r) ∷ [])

-- a record by a position, as on an area that begins at address 0
abbrev pub on_heap : (W G : ℕ) → Call → List ℕ → List ℕ × Answer
on_heap W G c h = shadow_step (heap_rules G 0 (length h)) (heap_ops W G (length h)) c h

abbrev pub on_stack : Call → StackShadows → StackShadows × Answer
on_stack c s = shadow_step (stack_rules 0 (length s.0)) (stack_ops (length s.0)) c s
