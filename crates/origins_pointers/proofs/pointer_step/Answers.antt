-- `origins_pointers::pointer_step` meets its contract: each arm is the call's own contract. Assumes nothing.
use borrow.Author.Rules.{rules}
use Rattle.origins_pointers.proofs.pointer_step.Goals as goal

pub returns-in-Point : goal.returns-in-Point
returns-in-Point c k =
    rw c.in-Point.is (c.point.ensures k)

pub returns-in-Copy : goal.returns-in-Copy
returns-in-Copy c k =
    rw c.in-Copy.is (c.copy.ensures k)

pub returns-in-Live : goal.returns-in-Live
returns-in-Live c k = rw c.in-Live.is (c.live.ensures k)
