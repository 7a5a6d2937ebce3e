-- `heap_marked_from::marked_from` meets its contract: the whole range is marked exactly if what is left of it is. Assumes nothing.
use Rattle.std.proofs.Common.{◌≡◌, ◌+◌, ◌-◌, ◌*◌, length}
use Rattle.map.specs.FormMap.{number_size, segment_size}
use Rattle.plain.specs.Ops.{range_marked}
use Rattle.heap_layout.specs.Ops.{heap_ops}
use Rattle.heap_marked_from.proofs.marked_from.Given as goal

abbrev pub invariant-loop-i : goal.invariant-loop-i
invariant-loop-i l =
    let O = heap_ops (number_size l.form) (segment_size l.form) (length l.heap) in
    let at = l.s + 32 * l.i in
    range_marked O l.heap l.s (l.e - l.s) ≡ range_marked O l.heap at (l.e - at)
