-- `stack_place::erase` meets its contract. Assumes nothing.
use Rattle.stack_layout.specs.Ops.{stack_erase}
use Rattle.stack_place.proofs.erase.Goals as goal

pub returns : goal.returns
unfolding stack_erase
returns c = rw (c.before.before.before.before.before.before.fill_zero_at.ensures, c.before.before.fill_zero_at-2.ensures)
