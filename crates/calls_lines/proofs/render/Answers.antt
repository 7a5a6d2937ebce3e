-- `calls_lines::render` meets its contract. Assumes nothing.
use native.Mathlib.Omega.{arith}
use Rattle.monitor_base.specs.Answers.{answer_of}
use Rattle.calls_format.proofs.LineLaws.{wrote-first, line-short}
use borrow.Author.Rules.{rules}
use Rattle.calls_lines.proofs.render.Goals as goal

pub returns : goal.returns
returns c =
    let a = c.args in
    let short = line-short a.kind (answer_of a.r) (omega arith, omega arith, (omega arith, (omega arith, (omega arith, (omega arith, tt))))) in
    wrote-first _ _ _ _ c.put_line.ensures (omega (arith, short))
