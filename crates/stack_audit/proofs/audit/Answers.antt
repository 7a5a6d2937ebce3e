-- `stack_audit::audit` meets its contract. The loop's invariant: what the walk has counted, with what is ahead of it, is what the layout's walk
-- finds. Assumes nothing.
use mathlib.Core.Path.{sym, ◌∙◌}
use native.Mathlib.Omega.{arith}
use Rattle.stack_audit_laws.proofs.LoopLaws.{rest-start, rest_end, rest-open}
use Rattle.stack_audit.proofs.audit.Goals as goal

pub loop-q-init : goal.loop-q-init
loop-q-init c = (
  record { within = omega arith; begun = omega arith; offset = omega arith; few = omega arith; lives = omega arith; marks = omega arith },
  rest-start c.args.primary.now c.args.secondary.now,
)

pub overflow_add-q : goal.overflow_add-q
overflow_add-q c = omega (arith, c.in_ok-walk.ensures.2)

pub loop-q-smaller : goal.loop-q-smaller
loop-q-smaller c = omega (arith, c.in_ok-walk.ensures.1)

pub loop-q-preserved : goal.loop-q-preserved
loop-q-preserved c = (c.in_ok-walk.ensures.2, c.loop-q.invariant.1 ∙ c.in_ok-walk.ensures.0)

pub returns-then-w-eq0 : goal.returns-then-w-eq0
returns-then-w-eq0 c =
    let l = c.loop-q in
    sym (l.invariant.1 ∙ rest_end c.args.primary.now c.args.secondary.now l.q l.w (omega arith) c.if-w-eq0.true)

pub returns : goal.returns
returns c =
    let l = c.loop-q in
    sym (l.invariant.1 ∙ rest-open c.args.primary.now c.args.secondary.now l.q l.w (omega arith) c.if-w-eq0.false)
