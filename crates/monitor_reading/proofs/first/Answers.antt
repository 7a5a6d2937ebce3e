-- `monitor_reading::first` meets its contract. Assumes nothing.
use borrow.Author.Rules.{rules}
use Rattle.monitor_reading.proofs.first.Goals as goal

pub returns-in-Block : goal.returns-in-Block
returns-in-Block c = rw c.in-Block.is
