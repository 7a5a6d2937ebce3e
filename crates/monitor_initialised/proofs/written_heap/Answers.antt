-- `monitor_initialised::written_heap` meets its contract. Assumes nothing.
use Rattle.std.proofs.Common.{sym, ◌∙◌}
use Rattle.number.specs.Parts.{at}
use Rattle.monitor_base.proofs.LocatingLaws.{heap-room}
use Rattle.monitor_read_laws.proofs.JudgingLaws.{initialised-in, initialised-out}
use Rattle.monitor_initialised.proofs.written_heap.Goals as goal

pub marked-requires : goal.marked-requires
marked-requires c =
    let e = rw c.read-first.ensures at c.in_one.ensures in
    (heap-room _ _ _ (at c.args.heap.now) c.args.p.0 c.args.n (sym e ∙ c.if-in_one.true), c.requires.1, c.requires.2)

pub returns-then-in_one : goal.returns-then-in_one
returns-then-in_one c =
    let e = rw c.read-first.ensures at c.in_one.ensures in
    initialised-in _ _ _ _ (sym e ∙ c.if-in_one.true) c.marked.ensures _ c.yes_no.ensures

pub returns : goal.returns
returns c =
    let e = rw c.read-first.ensures at c.in_one.ensures in
    initialised-out _ _ _ (sym e ∙ c.if-in_one.false) _ (rw c.read-first.ensures at c.apart.ensures)
