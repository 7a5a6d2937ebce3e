-- `monitor_stamp::stamp` meets its contract: one arm for each area. Assumes nothing.
use mathlib.Core.Path.{◌≡◌, ap, subst}
use mathlib.Core.List.{List}
use Prim.Native.Nat.{ℕ}
use Rattle.map.specs.FormMap.{segment_size}
use Rattle.shadows.specs.Shadows.{Shadows}
use Rattle.stack_layout.specs.Ops.{StackShadows}
use Rattle.map.specs.declared.Located.{Located}
use Rattle.map.specs.declared.Located.TheVariants.{Heap}
use Rattle.monitor_write_laws.specs.Checks.{Stampable}
use borrow.Author.Rules.{rules}
use Rattle.monitor_stamp.proofs.stamp.Goals as goal
use Rattle.monitor_stamp.proofs.stamp.Lts as place
use Rattle.monitor_stamp.proofs.stamp.Reads as reads
use Rattle.monitor_stamp.proofs.stamp.Tie as tie

-- steps of the code, by name
abbrev Start : Type 0
Start = place.Start tie.the-claims reads.Pre reads.Post tie.handed_clauses

abbrev After-slice_known3 : Type 0
After-slice_known3 = place.After-slice_known3 tie.the-claims reads.Pre reads.Post tie.handed_clauses

abbrev shadows : Start → Shadows
shadows c = (c.args.heap.now, (c.args.primary.now, c.args.secondary.now))

stampable : (c : After-slice_known3) (x : Located) → c.args.place ≡ x → Stampable (segment_size c.args.form) x c.args.len (shadows c.before.before.before)
stampable c x q = subst (λ x. Stampable (segment_size c.args.form) x c.args.len (shadows c.before.before.before)) q c.requires

pub stamp-requires : goal.stamp-requires
stamp-requires c =
    let r : Stampable (segment_size c.args.form) (Heap c.in-Heap.p) c.args.len (shadows c.before.before.before.before.before.before) = stampable c.before.before.before _ c.in-Heap.is in
    record { form_bound = r.0; le_len = r.1 }

pub stamp-requires-in-Stack : goal.stamp-requires-in-Stack
stamp-requires-in-Stack c =
    stampable c.before.before.before.before _ c.in-Stack.is

pub returns-in-Heap : goal.returns-in-Heap
returns-in-Heap c =
    rw c.in-Heap.is (ap (λ (h : List ℕ). (h, (c.args.primary.now, c.args.secondary.now))) c.stamp.ensures)

pub returns-in-Stack : goal.returns-in-Stack
returns-in-Stack c =
    rw c.in-Stack.is (ap (λ (t : StackShadows). (c.args.heap.now, t)) c.stamp-in-Stack.ensures)

pub returns-in-Outside : goal.returns-in-Outside
returns-in-Outside c = rw c.in-Outside.is
