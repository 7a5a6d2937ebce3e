-- `origins_query::query_step` meets its contract: each arm is the call's own contract. Assumes nothing.
use borrow.Author.Rules.{rules}
use Rattle.origins_query.proofs.query_step.Goals as goal

pub returns-in-Ask : goal.returns-in-Ask
returns-in-Ask c k = rw c.in-Ask.is (c.ask.ensures k)

pub returns-in-Valid : goal.returns-in-Valid
returns-in-Valid c k = rw c.in-Valid.is (c.valid.ensures k)

pub returns-in-Initialised : goal.returns-in-Initialised
returns-in-Initialised c k = rw c.in-Initialised.is (c.initialised.ensures k)

pub returns-in-Next : goal.returns-in-Next
returns-in-Next c k = rw c.in-Next.is (c.next.ensures k)

pub returns-in-Audit : goal.returns-in-Audit
returns-in-Audit c k = rw c.in-Audit.is (c.audit.ensures k)
