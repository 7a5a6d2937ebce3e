-- `heap_stamp::stamp` meets its contract: after the header, the segments passed are in place. Assumes nothing.
use Rattle.std.proofs.Common.{◌≡◌, ◌+◌, ◌*◌}
use Rattle.map.specs.FormMap.{number_size, segment_size}
use Rattle.heap_laws.proofs.StampLaws.{placed}
use Rattle.heap_stamp.proofs.stamp.Given as goal

abbrev pub invariant-loop-i : goal.invariant-loop-i
invariant-loop-i l =
    record {
      numbered : l.number ≡ l.i * segment_size l.form + 1;
      stamped : l.heap ≡ placed (number_size l.form) (segment_size l.form) l.how l.b l.len (l.i * segment_size l.form) l.initial.heap;
    }
