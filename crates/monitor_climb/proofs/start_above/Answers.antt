-- `monitor_climb::start_above` meets its contract. Assumes nothing.
use borrow.Author.Tests.{lt-ltb, le-ltb}
use Rattle.monitor_read_laws.specs.Climbed.{start_above}
use Rattle.monitor_climb.proofs.start_above.Goals as goal

pub returns-then-a-heap : goal.returns-then-a-heap
unfolding start_above
returns-then-a-heap c = rw (lt-ltb _ _ c.if-heap-stack.true, lt-ltb _ _ c.if-a-heap.true)

pub returns-then-heap-stack : goal.returns-then-heap-stack
unfolding start_above
returns-then-heap-stack c = rw (lt-ltb _ _ c.if-heap-stack.true, le-ltb _ _ c.if-a-heap.false)

pub returns-then-a-stack : goal.returns-then-a-stack
unfolding start_above
returns-then-a-stack c = rw (le-ltb _ _ c.if-heap-stack.false, lt-ltb _ _ c.if-a-stack.true)

pub returns : goal.returns
unfolding start_above
returns c = rw (le-ltb _ _ c.if-heap-stack.false, le-ltb _ _ c.if-a-stack.false)
