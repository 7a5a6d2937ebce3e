-- `heap_audit_runs::free` meets its contract. Assumes nothing.
use Rattle.std.proofs.Common.{◌-◌, length}
use Rattle.map.specs.FormMap.{number_size, segment_size}
use Rattle.heap_audit_laws.specs.Runs.{Passed}
use Rattle.heap_audit_runs.proofs.free.Given as goal

abbrev pub invariant-loop-t : goal.invariant-loop-t
invariant-loop-t l = Passed (number_size l.fn.form) (segment_size l.fn.form) l.heap l.s l.w l.t l.w

abbrev pub decreases-loop-t : goal.decreases-loop-t
decreases-loop-t l = length l.heap - l.t
