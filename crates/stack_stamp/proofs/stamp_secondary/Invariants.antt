-- `stack_stamp::stamp_secondary` meets its contract. Its invariant: the pieces passed are written, the other bytes as they were. Assumes nothing.
use Rattle.std.proofs.Common.{◌≡◌, ◌-◌, ◌*◌}
use Rattle.number.specs.Parts.{over}
use Rattle.stack_layout.specs.Code.{secondary_of}
use Rattle.stack_stamp.proofs.stamp_secondary.Given as goal

abbrev pub invariant-loop-piece : goal.invariant-loop-piece
invariant-loop-piece l = l.secondary ≡ over l.b (8 * l.piece) (λ q. secondary_of l.len (q - l.b)) l.initial.secondary
