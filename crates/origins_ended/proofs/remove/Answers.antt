-- `origins_ended::remove` meets its contract: the call's own, at this counter. Assumes nothing.
use borrow.Author.Rules.{rules}
use Rattle.origins_ended.proofs.remove.Goals as goal

pub returns : goal.returns
returns c = c.remove-answer.ensures _
