-- `heap_mark_from::mark_from` meets its contract: what is left to mark makes of the shadow what the whole range makes of it. Assumes nothing.
use Rattle.std.proofs.Common.{◌≡◌, ◌-◌, ◌%◌, ◌≤◌, length}
use Rattle.map.specs.FormMap.{number_size, segment_size}
use Rattle.plain.specs.Ops.{mark_range}
use Rattle.heap_layout.specs.Ops.{heap_ops}
use Rattle.heap_bits.specs.Bytes.{LieAhead}
use Rattle.heap_mark_from.proofs.mark_from.Given as goal

abbrev pub invariant-loop-at : goal.invariant-loop-at
invariant-loop-at l =
    let O = heap_ops (number_size l.form) (segment_size l.form) (length l.initial.heap) in
    (l.at % 8 ≡ 0) × (l.at ≤ l.e) × LieAhead l.form l.at l.ahead.own l.ahead.next × (length l.heap ≡ length l.initial.heap)
    × (mark_range O l.initial.heap l.initial.at (l.e - l.initial.at) ≡ mark_range O l.heap l.at (l.e - l.at))

abbrev pub decreases-loop-at : goal.decreases-loop-at
decreases-loop-at l = l.e - l.at
