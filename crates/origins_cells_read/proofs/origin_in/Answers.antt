-- `origins_cells_read::origin_in` meets its contract. Assumes nothing.
use borrow.Author.Rules.{rules}
use Rattle.origins_cells_read.proofs.origin_in.Goals as goal

pub origin_at-requires : goal.origin_at-requires
origin_at-requires c = rw c.in-Block.is at c.requires

pub returns-in-Block : goal.returns-in-Block
returns-in-Block c = rw c.in-Block.is c.origin_at.ensures
