-- `monitor::step` meets its contract: a call that every form has, or place. Assumes nothing.
use borrow.Author.Rules.{rules}
use Rattle.specification.proofs.Same.{said_of}
use Rattle.monitor.proofs.step.Goals as goal

pub returns-in-Call : goal.returns-in-Call
returns-in-Call c =
    let e = c.args in
    rw c.in-Call.is (said_of e.form e.map _ _ _ c.call_step.ensures)

pub returns-in-Place : goal.returns-in-Place
returns-in-Place c =
    let e = c.args in
    rw c.in-Place.is (said_of e.form e.map _ _ _ c.place.ensures)
