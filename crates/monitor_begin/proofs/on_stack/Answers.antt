-- `monitor_begin::on_stack` meets its contract. Assumes nothing.
use mathlib.Core.Path.{sym, ◌∙◌}
use native.Mathlib.Omega.{arith}
use borrow.Author.Tests.{not-true, not-false}
use Rattle.monitor_write_laws.proofs.RecordingLaws.{stack-4, stack-6, stack-0}
use Rattle.monitor_begin.proofs.on_stack.Goals as goal

pub returns-then-end-at : goal.returns-then-end-at
returns-then-end-at c =
    let n = stack-4 (c.args.primary.now, c.args.secondary.now) c.args.base.0 c.args.len c.requires.le_len.0
    (omega (arith, c.if-end-at.true, c.requires.le_len.1)) in
    (n, λ z. omega arith)

pub returns-then-not-vacant : goal.returns-then-not-vacant
returns-then-not-vacant c =
    let n = stack-6 (c.args.primary.now, c.args.secondary.now) c.args.base.0 c.args.len c.requires.le_len.0
    (omega (arith, c.if-end-at.false, c.requires.le_len.1)) (sym c.vacant.ensures ∙ not-true c.vacant.result c.if-not-vacant.true-raw) in
    (n, λ z. omega arith)

pub returns : goal.returns
returns c =
    sym (stack-0 (c.args.primary.now, c.args.secondary.now) c.args.base.0 c.args.len c.requires.le_len.0
    (omega (arith, c.if-end-at.false, c.requires.le_len.1)) (sym c.vacant.ensures ∙ not-false c.vacant.result c.if-not-vacant.false-raw))
