-- `origins_c_lent::point` meets its contract. Assumes nothing.
use Rattle.origins_c_lent.proofs.LentLaws.{under}
use borrow.Author.Rules.{rules}
use Rattle.origins_c_lent.proofs.point.Goals as goal

pub returns : goal.returns
returns c k = under _ _ _ _ _ (c.point.ensures k) c.map_of.ensures
