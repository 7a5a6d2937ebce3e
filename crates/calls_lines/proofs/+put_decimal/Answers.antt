-- `calls_lines::put_decimal` meets its contract.
use native.Mathlib.Omega.{arith}
use Rattle.calls_format.proofs.LineLaws.{length_last, length_more, wrote-last, wrote-more}
use Rattle.calls_lines.proofs.+put_decimal.Goals as goal

pub bounds-line-place : goal.bounds-line-place
bounds-line-place t c = omega (arith, length_last c.args.v c.if-v-lt10.true)

pub returns-then-v-lt10 : goal.returns-then-v-lt10
returns-then-v-lt10 t c = wrote-last _ _ _ c.if-v-lt10.true

pub put_decimal-end-requires : goal.put_decimal-end-requires
put_decimal-end-requires t c = (omega arith, omega (arith, length_more c.args.v (omega arith)))

pub bounds-line-end : goal.bounds-line-end
bounds-line-end t c = omega (arith, length_more c.args.v (omega arith), c.put_decimal-end.auto.line)

pub overflow_add-result-2 : goal.overflow_add-result-2
overflow_add-result-2 t c = omega (arith, length_more c.args.v (omega arith), c.put_decimal-end.auto.line)

pub returns : goal.returns
returns t c = wrote-more _ _ _ _ _ (omega arith) c.put_decimal-end.ensures
