-- `stack_stamp::stamp_pieces` meets its contract. Its invariant: the pieces passed are written, the other bytes as they were. Assumes nothing.
use Rattle.std.proofs.Common.{◌≡◌, ◌-◌, ◌*◌}
use Rattle.number.specs.Parts.{over}
use Rattle.stack_layout.specs.Code.{primary_of}
use Rattle.stack_stamp.proofs.stamp_pieces.Given as goal

abbrev pub invariant-loop-piece : goal.invariant-loop-piece
invariant-loop-piece l = l.primary ≡ over l.b (8 * l.piece) (λ q. primary_of l.len (q - l.b) l.bits) l.initial.primary
