-- `stack_marked::all_marked` meets its contract: what was seen so far is 1 exactly if the bytes passed are marked. Assumes nothing.
use Rattle.std.proofs.Common.{◌≡◌, ◌<◌, [], length}
use lib.Dec.{eqb}
use Rattle.plain.specs.Ops.{range_marked}
use Rattle.stack_layout.specs.Ops.{stack_ops}
use Rattle.stack_marked.proofs.all_marked.Given as goal

abbrev pub invariant-loop-b : goal.invariant-loop-b
invariant-loop-b l = record {
  bit : l.seen < 2;
  ones : eqb l.seen 1 ≡ range_marked (stack_ops (length l.part)) (l.part, []) 0 l.b-index;
}
