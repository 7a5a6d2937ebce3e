-- `heap_gaps::choose` meets its contract: the whole scan is what the gaps that are left add to what was looked at. Assumes nothing.
use Rattle.std.proofs.Common.{◌*◌}
use Rattle.map.specs.FormMap.{number_size, segment_size}
use Rattle.heap_gap_laws.specs.Pass.{Kept}
use Rattle.heap_gaps.proofs.choose.Given as goal

abbrev pub invariant-loop-i : goal.invariant-loop-i
invariant-loop-i l = Kept (number_size l.form) (segment_size l.form) l.heap l.need l.budget l.g (4 * segment_size l.form * l.i)

abbrev pub invariant-loop-i-2 : goal.invariant-loop-i-2
invariant-loop-i-2 l = Kept (number_size l.form) (segment_size l.form) l.heap l.need l.budget l.g (segment_size l.form * l.i)
