-- `stack_mark::mark_four` meets its contract: the number holds the four bytes, and the mask the bit of each. Assumes nothing.
use Rattle.std.proofs.Common.{◌∙◌}
use Rattle.number.specs.Little.{word}
use Rattle.stack_laws.proofs.MarkLaws.{mark-word}
use Rattle.stack_mark.proofs.mark_four.Goals as goal

pub returns : goal.returns
unfolding word
returns c =
    let b = c.slice_known-1.given in
    c.put_at.ensures ∙ mark-word c.args.part.now (λ q. (b q).fits) 4 c.args.k _ (rw c.number_at-word.ensures)
