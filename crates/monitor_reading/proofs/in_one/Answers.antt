-- `monitor_reading::in_one` meets its contract. Assumes nothing.
use borrow.Author.Rules.{rules}
use Rattle.monitor_reading.proofs.in_one.Goals as goal

pub returns-in-Block : goal.returns-in-Block
returns-in-Block c = rw c.in-Block.is
