-- `calls_lines::put_spaced` meets its contract. Assumes nothing.
use mathlib.Core.Path.{ap, ◌∙◌}
use native.Mathlib.Omega.{arith}
use lib.ListN.{length, length-set}
use Rattle.calls_format.proofs.LineLaws.{spaced-one, wrote-spaced}
use borrow.Author.Rules.{rules}
use Rattle.calls_lines.proofs.put_spaced.Goals as goal

pub bounds-line-place : goal.bounds-line-place
bounds-line-place c = omega (arith, ap length (spaced-one c.args.v))

pub put_decimal-requires : goal.put_decimal-requires
put_decimal-requires c = simp length-set (omega (arith, ap length (spaced-one c.args.v)))

pub shape_of-line : goal.shape_of-line
shape_of-line c = c.put_decimal.auto.line ∙ simp length-set

pub returns : goal.returns
returns c = wrote-spaced _ _ _ _ _ c.put_decimal.ensures
