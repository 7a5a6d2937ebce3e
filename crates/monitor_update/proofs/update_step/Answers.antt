-- `monitor_update::update_step` meets its contract: each arm is the call's own contract. Assumes nothing.
use borrow.Author.Rules.{rules}
use Rattle.monitor_update.proofs.update_step.Goals as goal

pub returns-in-Clear : goal.returns-in-Clear
returns-in-Clear c =
    rw c.in-Clear.is c.clear.ensures

pub returns-in-Begin : goal.returns-in-Begin
returns-in-Begin c =
    rw c.in-Begin.is c.begin.ensures

pub returns-in-Free : goal.returns-in-Free
returns-in-Free c =
    rw c.in-Free.is c.free.ensures

pub returns-in-Remove : goal.returns-in-Remove
returns-in-Remove c =
    rw c.in-Remove.is c.remove.ensures

pub returns-in-Written : goal.returns-in-Written
returns-in-Written c =
    rw c.in-Written.is c.written.ensures
