-- `monitor::call_step` meets its contract: a call that reads, or one that writes. Assumes nothing.
use borrow.Author.Rules.{rules}
use Rattle.monitor.proofs.call_step.Goals as goal

pub returns-in-Query : goal.returns-in-Query
returns-in-Query c = rw c.in-Query.is c.query_step.ensures

pub returns-in-Update : goal.returns-in-Update
returns-in-Update c = rw c.in-Update.is c.update_step.ensures
