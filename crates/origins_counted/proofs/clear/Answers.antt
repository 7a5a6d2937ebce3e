-- `origins_counted::clear` meets its contract: the call's own, at this counter. Assumes nothing.
use borrow.Author.Rules.{rules}
use Rattle.origins_counted.proofs.clear.Goals as goal

pub returns : goal.returns
returns c = c.clear-answer.ensures _
