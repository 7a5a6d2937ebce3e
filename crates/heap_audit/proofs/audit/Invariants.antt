-- `heap_audit::audit` meets its contract: what is left of the walk comes to what the whole walk does. Assumes nothing.
use Rattle.std.proofs.Common.{◌≡◌, ◌≤◌, ◌-◌, ◌/◌, length}
use Rattle.map.specs.FormMap.{number_size, segment_size}
use Rattle.heap_layout.specs.Ops.{heap_ops}
use Rattle.heap_audit_laws.specs.Turn.{rest, Kept}
use Rattle.heap_audit.proofs.audit.Given as goal

abbrev pub invariant-loop-s : goal.invariant-loop-s
invariant-loop-s l =
    (l.s ≤ length l.heap / segment_size l.form) × Kept (segment_size l.form) (length l.heap) l.s l.w
    × ((heap_ops (number_size l.form) (segment_size l.form) (length l.heap)).audit l.heap
    ≡ rest (number_size l.form) (segment_size l.form) l.heap l.s l.w)

abbrev pub decreases-loop-s : goal.decreases-loop-s
decreases-loop-s l = length l.heap / segment_size l.form - l.s
