-- `monitor_reading::reading` meets its contract: one arm for each area. Assumes nothing.
use borrow.Author.Rules.{rules}
use Rattle.map.specs.FormMap.{segment_size}
use Rattle.monitor_read_laws.proofs.AskingLaws.{same-there}
use Rattle.monitor_reading.proofs.reading.Goals as goal

pub read-requires : goal.read-requires
read-requires c =
    same-there (segment_size c.args.form) c.args.l _ c.args.heap.now c.args.primary.now c.args.secondary.now c.in-Heap.is c.requires

pub read-requires-in-Stack : goal.read-requires-in-Stack
read-requires-in-Stack c =
    same-there (segment_size c.args.form) c.args.l _ c.args.heap.now c.args.primary.now c.args.secondary.now c.in-Stack.is c.requires

pub returns-in-Heap : goal.returns-in-Heap
returns-in-Heap c = rw c.in-Heap.is c.read.ensures

pub returns-in-Stack : goal.returns-in-Stack
returns-in-Stack c = rw c.in-Stack.is c.read-in-Stack.ensures
