-- `origins_counted::written` meets its contract: the call's own, at this counter. Assumes nothing.
use borrow.Author.Rules.{rules}
use Rattle.origins_counted.proofs.written.Goals as goal

pub returns : goal.returns
returns c = c.written-answer.ensures _
