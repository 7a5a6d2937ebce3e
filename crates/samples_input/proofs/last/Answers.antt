-- `samples_input::last` meets its contract. Assumes nothing.
use Rattle.samples_input.proofs.InputLaws.{last_none, last_some}
use Rattle.samples_input.proofs.last.Goals as goal

pub returns-then-n-eq0 : goal.returns-then-n-eq0
returns-then-n-eq0 c = last_none _ c.if-n-eq0.true

pub returns-else-n-eq0 : goal.returns-else-n-eq0
returns-else-n-eq0 c = last_some _ c.if-n-eq0.false
