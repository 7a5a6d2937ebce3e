-- `monitor_climb::top` meets its contract. Assumes nothing.
use mathlib.Core.Path.{◌≡◌, ◌∙◌}
use Prim.Native.Nat.{ℕ, ◌+◌, max}
use native.Mathlib.Omega.{arith}
use Rattle.map.specs.Map.{end_of}
use borrow.Author.Rules.{rules}
use Rattle.monitor_climb.proofs.top.Goals as goal
use Rattle.monitor_climb.proofs.top.Lts as place
use Rattle.monitor_climb.proofs.top.Reads as reads
use Rattle.monitor_climb.proofs.top.Tie as tie

-- steps of the code, by name
abbrev After-end_of2 : Type 0
After-end_of2 = place.After-end_of2 tie.the-claims reads.Pre reads.Post

-- the two ends
ends : (c : After-end_of2) → let m = c.args.map in
    (c.end_of-heap.result.0 ≡ m.heap_start + m.heap_size) × (c.end_of-stack.result.0 ≡ m.stack_start + m.stack_size)
unfolding end_of
ends c = (c.end_of-heap.ensures, c.end_of-stack.ensures)

pub returns-then-heap-stack : goal.returns-then-heap-stack
returns-then-heap-stack c = omega (arith, (ends c.before.before.before).0, (ends c.before.before.before).1, c.if-heap-stack.true)

pub returns : goal.returns
returns c = omega (arith, (ends c.before.before.before).0, (ends c.before.before.before).1, c.if-heap-stack.false)
