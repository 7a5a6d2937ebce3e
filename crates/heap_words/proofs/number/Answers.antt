-- `heap_words::number` meets its contract. Assumes nothing.
use Rattle.std.proofs.Common.{sym, ◌∙◌}
use native.Mathlib.Omega.{arith}
use lib.Seq.{take_all}
use Rattle.number.proofs.LittleLaws.{le-word}
use Rattle.heap_words.proofs.number.Goals as goal

pub returns-in-Desk : goal.returns-in-Desk
returns-in-Desk c =
    let l = c.args.part.now in
    let n = rw c.in-Desk.is at c.requires in
    c.eight_at.ensures ∙ sym (rw (take_all 8 l (omega arith)) at (le-word l 8 0 (omega arith)))
