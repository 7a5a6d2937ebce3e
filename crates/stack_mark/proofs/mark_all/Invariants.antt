-- `stack_mark::mark_all` meets its contract: the bytes passed are marked, the others as they were. Assumes nothing.
use Rattle.std.proofs.Common.{◌≡◌}
use Rattle.number.specs.Parts.{at, over}
use Rattle.stack_layout.specs.Ops.{with_written}
use Rattle.stack_mark.proofs.mark_all.Given as goal

abbrev pub invariant-loop-b : goal.invariant-loop-b
invariant-loop-b l = l.part ≡ over 0 l.b-index (λ q. with_written (at l.initial.part q)) l.initial.part
