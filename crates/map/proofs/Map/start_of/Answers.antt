-- Each arm is the definition's own. Assumes nothing.
use Rattle.std.proofs.Common.{rules}
use Rattle.map.specs.Map.{start_of}
use Rattle.map.proofs.Map.start_of.Goals as goal

pub returns-in-Heap : goal.returns-in-Heap
unfolding start_of
returns-in-Heap c = search rules

pub returns-in-Stack : goal.returns-in-Stack
unfolding start_of
returns-in-Stack c = search rules

pub returns-in-Outside : goal.returns-in-Outside
unfolding start_of
returns-in-Outside c = search rules
