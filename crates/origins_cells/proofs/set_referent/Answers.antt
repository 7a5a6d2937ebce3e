-- `origins_cells::set_referent` meets its contract: one arm for each area. Assumes nothing.
use mathlib.Core.Path.{◌≡◌, ap, subst}
use mathlib.Core.List.{List}
use Prim.Native.Nat.{ℕ}
use Rattle.cells_layout.specs.Cells.{Cells}
use Rattle.map.specs.declared.Located.{Located}
use Rattle.origins_laws.specs.CellsAt.{CellAt}
use borrow.Author.Rules.{rules}
use Rattle.origins_cells.proofs.set_referent.Goals as goal
use Rattle.origins_cells.proofs.set_referent.Lts as place
use Rattle.origins_cells.proofs.set_referent.Reads as reads
use Rattle.origins_cells.proofs.set_referent.Tie as tie

-- steps of the code, by name
abbrev Start : Type 0
Start = place.Start tie.the-claims reads.Pre reads.Post

abbrev After-slice_known2 : Type 0
After-slice_known2 = place.After-slice_known2 tie.the-claims reads.Pre reads.Post

abbrev cells : Start → Cells
cells c = (c.args.heap_cells.now, c.args.stack_cells.now)

has_cells : (c : After-slice_known2) (x : Located) → c.args.l ≡ x → CellAt x (cells c.before.before)
has_cells c x q = subst (λ x. CellAt x (cells c.before.before)) q c.requires

pub store_referent-requires : goal.store_referent-requires
store_referent-requires c =
    has_cells c.before.before.before _ c.in-Heap.is

pub store_referent-requires-in-Stack : goal.store_referent-requires-in-Stack
store_referent-requires-in-Stack c =
    has_cells c.before.before.before _ c.in-Stack.is

pub returns-in-Heap : goal.returns-in-Heap
returns-in-Heap c =
    rw c.in-Heap.is (ap (λ (h : List ℕ). (h, c.args.stack_cells.now)) c.store_referent.ensures)

pub returns-in-Stack : goal.returns-in-Stack
returns-in-Stack c =
    rw c.in-Stack.is (ap (λ (h : List ℕ). (c.args.heap_cells.now, h)) c.store_referent-in-Stack.ensures)

pub returns-in-Outside : goal.returns-in-Outside
returns-in-Outside c = rw c.in-Outside.is
