-- `cells_store::store_origin` meets its contract. Assumes nothing.
use Rattle.cells_layout.specs.Area.{set_half}
use borrow.Author.Rules.{rules}
use Rattle.cells_store.proofs.store_origin.Goals as goal

pub returns : goal.returns
unfolding set_half
returns c = c.put_at.ensures
