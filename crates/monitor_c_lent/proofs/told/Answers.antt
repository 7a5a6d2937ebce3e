-- `monitor_c_lent::told` meets its contract. Assumes nothing.
use Rattle.monitor_c_lent.proofs.LentLaws.{stored}
use borrow.Author.Rules.{rules}
use Rattle.monitor_c_lent.proofs.told.Goals as goal

pub returns : goal.returns
returns c = stored c.args.fields.now _ _ _ _ _ c.requires
