-- `monitor_ending::ending` meets its contract. Assumes nothing.
use borrow.Author.Tests.{eq-eqb, ne_eqb}
use Rattle.monitor_ending.proofs.ending.Goals as goal

pub returns-then-offset-ne0 : goal.returns-then-offset-ne0
returns-then-offset-ne0 c = rw (c.in-Block.is, ne_eqb _ 0 c.if-offset-ne0.true)

pub returns-else-offset-ne0 : goal.returns-else-offset-ne0
returns-else-offset-ne0 c = rw (c.in-Block.is, eq-eqb _ 0 c.if-offset-ne0.false)
