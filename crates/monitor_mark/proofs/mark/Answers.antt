-- `monitor_mark::mark` meets its contract: one arm for each area. Assumes nothing.
use mathlib.Core.Path.{◌≡◌, ap, subst}
use mathlib.Core.List.{List}
use Prim.Native.Nat.{ℕ}
use Rattle.map.specs.FormMap.{segment_size}
use Rattle.stack_layout.specs.Ops.{StackShadows}
use Rattle.map.specs.declared.Located.{Located}
use Rattle.monitor_write_laws.specs.Checks.{Markable}
use borrow.Author.Rules.{rules}
use Rattle.monitor_mark.proofs.mark.Goals as goal
use Rattle.monitor_mark.proofs.mark.Lts as place
use Rattle.monitor_mark.proofs.mark.Reads as reads
use Rattle.monitor_mark.proofs.mark.Tie as tie

-- steps of the code, by name
abbrev After-slice_known2 : Type 0
After-slice_known2 = place.After-slice_known2 tie.the-claims reads.Pre reads.Post

markable : (c : After-slice_known2) (x : Located) → c.args.place ≡ x → Markable (segment_size c.args.form) x c.args.n c.args.heap.now c.args.primary.now
markable c x q = subst (λ x. Markable (segment_size c.args.form) x c.args.n c.args.heap.now c.args.primary.now) q c.requires

pub mark-requires : goal.mark-requires
mark-requires c =
    markable c.before.before.before _ c.in-Heap.is

pub mark-requires-in-Stack : goal.mark-requires-in-Stack
mark-requires-in-Stack c =
    markable c.before.before.before _ c.in-Stack.is

pub returns-in-Heap : goal.returns-in-Heap
returns-in-Heap c S =
    rw c.in-Heap.is (ap (λ (h : List ℕ). (h, (c.args.primary.now, S))) c.mark.ensures)

pub returns-in-Stack : goal.returns-in-Stack
returns-in-Stack c S =
    rw c.in-Stack.is (ap (λ (t : StackShadows). (c.args.heap.now, t)) (c.mark-in-Stack.ensures S))

pub returns-in-Outside : goal.returns-in-Outside
returns-in-Outside c S = rw c.in-Outside.is
