-- `origins_cells_read::referent` meets its contract: one arm for each area. Assumes nothing.
use mathlib.Core.Path.{◌≡◌, subst}
use Rattle.cells_layout.specs.Cells.{Cells}
use Rattle.map.specs.declared.Located.{Located}
use Rattle.origins_laws.specs.CellsAt.{CellAt}
use borrow.Author.Rules.{rules}
use Rattle.origins_cells_read.proofs.referent.Goals as goal
use Rattle.origins_cells_read.proofs.referent.Lts as place
use Rattle.origins_cells_read.proofs.referent.Reads as reads
use Rattle.origins_cells_read.proofs.referent.Tie as tie

-- steps of the code, by name
abbrev Start : Type 0
Start = place.Start tie.the-claims reads.Pre reads.Post

abbrev After-shared_slice_known2 : Type 0
After-shared_slice_known2 = place.After-shared_slice_known2 tie.the-claims reads.Pre reads.Post

abbrev cells : Start → Cells
cells c = (c.args.heap_cells.now, c.args.stack_cells.now)

has-cell : (c : After-shared_slice_known2) (x : Located) → c.args.l ≡ x → CellAt x (cells c.before.before)
has-cell c x q = subst (λ x. CellAt x (cells c.before.before)) q c.requires

pub referent_at-requires : goal.referent_at-requires
referent_at-requires c = has-cell c.before.before _ c.in-Heap.is

pub referent_at-requires-in-Stack : goal.referent_at-requires-in-Stack
referent_at-requires-in-Stack c = has-cell c.before.before _ c.in-Stack.is

pub returns-in-Heap : goal.returns-in-Heap
returns-in-Heap c = rw c.in-Heap.is c.referent_at.ensures

pub returns-in-Stack : goal.returns-in-Stack
returns-in-Stack c = rw c.in-Stack.is c.referent_at-in-Stack.ensures
