-- `origins_pointer::holds_pointer` meets its contract. Assumes nothing.
use Rattle.origins_pointer.proofs.holds_pointer.Goals as goal

pub returns : goal.returns
returns c = rw c.in_one.ensures
