-- The end fits, by what is required; each arm is the definition's own. Assumes nothing.
use Rattle.std.proofs.Common.{rules}
use Rattle.map.specs.Map.{end_of}
use Rattle.map.proofs.Map.end_of.Goals as goal

pub returns-in-Heap : goal.returns-in-Heap
unfolding end_of
returns-in-Heap c = rw c.before.in-Heap.is

pub returns-in-Stack : goal.returns-in-Stack
unfolding end_of
returns-in-Stack c = rw c.before.in-Stack.is

pub returns-in-Outside : goal.returns-in-Outside
unfolding end_of
returns-in-Outside c = search rules
