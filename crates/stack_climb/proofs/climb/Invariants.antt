-- `stack_climb::climb` meets its contract: the bytes passed climb by 4, the others are as they were. Assumes nothing.
use Rattle.std.proofs.Common.{◌≡◌, ◌+◌, ◌*◌}
use Rattle.number.specs.Parts.{over}
use Rattle.stack_climb.proofs.climb.Given as goal

abbrev pub invariant-loop-b : goal.invariant-loop-b
invariant-loop-b l = record {
  next : l.byte ≡ l.first + 4 * l.b-index;
  filled : l.part ≡ over 0 l.b-index (λ k. l.first + 4 * k) l.initial.part;
}
