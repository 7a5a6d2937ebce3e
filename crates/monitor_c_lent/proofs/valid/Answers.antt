-- `monitor_c_lent::valid` meets its contract. Assumes nothing.
use Rattle.monitor_c_lent.proofs.LentLaws.{lent}
use borrow.Author.Rules.{rules}
use Rattle.monitor_c_lent.proofs.valid.Goals as goal

pub returns : goal.returns
returns c = lent _ c.args.form _ _ _ _ c.valid.ensures c.map_of.ensures
