-- `origins_ended::free` meets its contract: the call's own, at this counter. Assumes nothing.
use borrow.Author.Rules.{rules}
use Rattle.origins_ended.proofs.free.Goals as goal

pub returns : goal.returns
returns c = c.free-answer.ensures _
