-- `monitor_yes_no::apart` meets its contract. Assumes nothing.
use Rattle.monitor_read_laws.proofs.JudgingLaws.{apart-damaged, apart-whole}
use borrow.Author.Rules.{rules}
use Rattle.monitor_yes_no.proofs.apart.Goals as goal

pub returns-then-damaged : goal.returns-then-damaged
returns-then-damaged c = apart-damaged _ _ _ _ c.damaged.ensures c.damaged-2.ensures c.if-damaged.true _ c.refusal.ensures

pub returns : goal.returns
returns c = apart-whole _ _ _ _ c.damaged.ensures c.damaged-2.ensures c.if-damaged.false _ c.yes_no.ensures
