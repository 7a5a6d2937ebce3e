-- The bytes passed are zero, the others as they were.
use Rattle.std.proofs.Common.{◌≡◌}
use Rattle.number.specs.Parts.{over}
use Rattle.number_zeros.proofs.fill_zero.Given as goal

abbrev pub invariant-loop-x : goal.invariant-loop-x
invariant-loop-x l = l.s ≡ over 0 l.x-index (λ q. 0) l.fn.s
