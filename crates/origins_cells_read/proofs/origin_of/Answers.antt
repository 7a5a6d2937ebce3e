-- `origins_cells_read::origin_of` meets its contract: one arm for each area. Assumes nothing.
use mathlib.Core.Path.{◌≡◌, subst}
use Rattle.plain.specs.Answers.{reading_of}
use Rattle.cells_layout.specs.Cells.{Cells}
use Rattle.map.specs.declared.Located.{Located}
use Rattle.origins_laws.specs.Pointers.{BaseAt}
use borrow.Author.Rules.{rules}
use Rattle.origins_cells_read.proofs.origin_of.Goals as goal
use Rattle.origins_cells_read.proofs.origin_of.Lts as place
use Rattle.origins_cells_read.proofs.origin_of.Reads as reads
use Rattle.origins_cells_read.proofs.origin_of.Tie as tie

-- steps of the code, by name
abbrev Start : Type 0
Start = place.Start tie.the-claims reads.Pre reads.Post

abbrev After-shared_slice_known2 : Type 0
After-shared_slice_known2 = place.After-shared_slice_known2 tie.the-claims reads.Pre reads.Post

abbrev cells : Start → Cells
cells c = (c.args.heap_cells.now, c.args.stack_cells.now)

has_base : (c : After-shared_slice_known2) (x : Located) → c.args.l ≡ x → BaseAt x (reading_of c.args.r) (cells c.before.before)
has_base c x q = subst (λ x. BaseAt x (reading_of c.args.r) (cells c.before.before)) q c.requires

pub origin_in-requires : goal.origin_in-requires
origin_in-requires c = has_base c.before.before _ c.in-Heap.is

pub origin_in-requires-in-Stack : goal.origin_in-requires-in-Stack
origin_in-requires-in-Stack c = has_base c.before.before _ c.in-Stack.is

pub returns-in-Heap : goal.returns-in-Heap
returns-in-Heap c = rw c.in-Heap.is c.origin_in.ensures

pub returns-in-Stack : goal.returns-in-Stack
returns-in-Stack c = rw c.in-Stack.is c.origin_in-in-Stack.ensures
