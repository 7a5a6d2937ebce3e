-- `monitor_yes_no::judged` meets its contract. Assumes nothing.
use Rattle.monitor_read_laws.proofs.JudgingLaws.{valid-one, valid-zero}
use borrow.Author.Rules.{rules}
use Rattle.monitor_yes_no.proofs.judged.Goals as goal

pub returns-then-in_one-same_block : goal.returns-then-in_one-same_block
returns-then-in_one-same_block c =
    valid-one _ _ _ _ _ _ c.in_one.ensures c.same_block.ensures c.if-in_one-same_block.true _ c.literal.ensures _ c.yes_no.ensures

pub returns : goal.returns
returns c =
    valid-zero _ _ _ _ _ _ c.in_one.ensures c.same_block.ensures c.if-in_one-same_block.false _ c.apart.ensures
