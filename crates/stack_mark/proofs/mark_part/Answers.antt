-- `stack_mark::mark_part` meets its contract: each length writes over the same bytes. Assumes nothing.
use Rattle.std.proofs.Common.{arith}
use Rattle.number.specs.Parts.{at}
use Rattle.stack_laws.proofs.MarkLaws.{or-written, mark-one, over-marked}
use Rattle.stack_mark.proofs.mark_part.Goals as goal

pub returns-then-part-eq4 : goal.returns-then-part-eq4
returns-then-part-eq4 c = rw c.if-part-eq4.true c.mark_four.ensures

pub returns-then-part-eq8 : goal.returns-then-part-eq8
returns-then-part-eq8 c =
    rw c.if-part-eq8.true
    (over-marked c.args.part.now _ _ 0 4 4 (omega arith) c.mark_four-then-part-eq8.ensures c.mark_four-then-part-eq8-2.ensures)

pub returns-then-part-eq1 : goal.returns-then-part-eq1
returns-then-part-eq1 c =
    let P = c.args.part.now in
    rw (c.if-part-eq1.true, or-written (at P 0)) (mark-one P 0 (omega arith))
