-- `stack_table::codes_below` meets its contract. Assumes nothing.
use mathlib.Core.Path.{refl}
use native.Mathlib.Omega.{arith}
use Rattle.stack_laws.proofs.CodeLaws.{short-small}
use Rattle.stack_table.proofs.codes_below.Goals as goal

pub overflow_mul-result : goal.overflow_mul-result
overflow_mul-result c = omega (arith, short-small c.args.len c.requires.1)

pub returns : goal.returns
returns c = (refl, omega (arith, short-small c.args.len c.requires.1))
