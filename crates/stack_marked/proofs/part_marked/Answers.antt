-- `stack_marked::part_marked` meets its contract: the mask holds the bit of each byte. Assumes nothing.
use Rattle.std.proofs.Common.{[], sym}
use lib.Bits.{and_mask}
use Rattle.number.specs.Little.{word}
use Rattle.number.specs.Parts.{at}
use Rattle.stack_laws.proofs.MarkLaws.{marked-one, word-marked}
use Rattle.stack_marked.proofs.part_marked.Goals as goal

pub returns-then-part-eq4 : goal.returns-then-part-eq4
unfolding word
returns-then-part-eq4 c =
    let P = c.args.part.now in
    rw (c.if-part-eq4.true, c.number_at.ensures) (word-marked 4 P [] (λ q. (c.type_inv.part q).fits) 4 0)

pub returns-then-part-eq8 : goal.returns-then-part-eq8
unfolding word
returns-then-part-eq8 c =
    let P = c.args.part.now in
    rw (c.if-part-eq8.true, c.eight_at.ensures) (word-marked 8 P [] (λ q. (c.type_inv.part q).fits) 8 0)

pub returns-then-part-eq1 : goal.returns-then-part-eq1
returns-then-part-eq1 c =
    let P = c.args.part.now in
    rw (c.if-part-eq1.true, and_mask (at P 0) 1) (sym (marked-one 1 P [] 0))
