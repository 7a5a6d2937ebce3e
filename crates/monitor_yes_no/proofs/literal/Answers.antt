-- `monitor_yes_no::literal` meets its contract. Assumes nothing.
use borrow.Author.Rules.{rules}
use Rattle.number.proofs.BitLaws.{mask-two}
use Rattle.monitor_yes_no.proofs.literal.Goals as goal

pub returns-in-Block : goal.returns-in-Block
returns-in-Block c = rw (c.in-Block.is, ← (mask-two _))
