-- `cells_zero::zero` meets its contract. Assumes nothing.
use Rattle.cells_layout.specs.Area.{zero_cells}
use borrow.Author.Rules.{rules}
use Rattle.cells_zero.proofs.zero.Goals as goal

pub returns : goal.returns
unfolding zero_cells
returns c = c.fill_zero_at.ensures
