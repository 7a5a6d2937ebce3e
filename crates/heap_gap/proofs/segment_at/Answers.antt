-- `heap_gap::segment_at` meets its contract. Assumes nothing.
use Rattle.heap_gap.proofs.TellLaws.{word-tells, halves-tell}
use Rattle.heap_gap.proofs.segment_at.Goals as goal

pub returns-in-Player : goal.returns-in-Player
returns-in-Player c = rw c.in-Player.is (word-tells c.eight_at.ensures)

pub returns-in-Desk : goal.returns-in-Desk
returns-in-Desk c = rw c.in-Desk.is (halves-tell 8 c.eight_at-in-Desk.ensures c.eight_at-in-Desk-2.ensures)
