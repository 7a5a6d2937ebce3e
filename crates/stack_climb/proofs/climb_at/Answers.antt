-- `stack_climb::climb_at` meets its contract. Assumes nothing.
use Rattle.stack_climb.proofs.climb_at.Goals as goal

pub returns-then-n-eq8 : goal.returns-then-n-eq8
returns-then-n-eq8 c = rw c.if-n-eq8.true c.climb_eight.ensures
