-- `cells_store::store_referent` meets its contract. Assumes nothing.
use Rattle.cells_layout.specs.Area.{set_half}
use borrow.Author.Rules.{rules}
use Rattle.cells_store.proofs.store_referent.Goals as goal

pub returns : goal.returns
unfolding set_half
returns c = c.put_at.ensures
