-- `monitor_query::query_step` meets its contract: each arm is the call's own contract. Assumes nothing.
use borrow.Author.Rules.{rules}
use Rattle.monitor_query.proofs.query_step.Goals as goal

pub returns-in-Ask : goal.returns-in-Ask
returns-in-Ask c = rw c.in-Ask.is c.ask.ensures

pub returns-in-Valid : goal.returns-in-Valid
returns-in-Valid c = rw c.in-Valid.is c.valid.ensures

pub returns-in-Initialised : goal.returns-in-Initialised
returns-in-Initialised c = rw c.in-Initialised.is c.initialised.ensures

pub returns-in-Next : goal.returns-in-Next
returns-in-Next c = rw c.in-Next.is c.next.ensures

pub returns-in-Audit : goal.returns-in-Audit
returns-in-Audit c = rw c.in-Audit.is c.audit.ensures
