-- `samples_text::long_at` meets its contract. Assumes nothing.
use mathlib.Core.Path.{sym, ◌∙◌}
use native.Mathlib.Omega.{arith}
use Rattle.samples_text.proofs.TextLaws.{counted_start, counted_next, long-past, long-other, long-large}
use Rattle.samples_text.proofs.long_at.Goals as goal

pub loop-n-init : goal.loop-n-init
loop-n-init c = counted_start _

pub returns-in_default : goal.returns-in_default
returns-in_default c =
    c.taken.ensures ∙ long-other c.loop-n.invariant _ _ c.rest-text.ensures (sym c.in_default.is ∙ c.digit.ensures) c.loop-n-test.true

pub returns-in_err-checked_mul : goal.returns-in_err-checked_mul
returns-in_err-checked_mul c =
    let d = sym c.in-Some.is ∙ c.digit.ensures in
    c.from_residual.ensures
    ∙ long-large c.loop-n.invariant _ _ c.rest-text.ensures _ d c.loop-n-test.true (omega (arith, c.in_err-checked_mul.ensures))

pub returns-in_err-value : goal.returns-in_err-value
returns-in_err-value c =
    let d = sym c.in-Some.is ∙ c.digit.ensures in
    c.from_residual-in_err-value.ensures
    ∙ long-large c.loop-n.invariant _ _ c.rest-text.ensures _ d c.loop-n-test.true
    (omega (arith, c.in_err-value.ensures, c.in_ok-checked_mul.ensures))

pub loop-n-preserved : goal.loop-n-preserved
loop-n-preserved c =
    let d = sym c.in-Some.is ∙ c.digit.ensures in
    counted_next c.loop-n.invariant _ d c.loop-n-test.true _ (omega (arith, c.in_ok-value.ensures, c.in_ok-checked_mul.ensures))
    (omega (arith, c.in_ok-value.ensures))

pub returns : goal.returns
returns c = c.taken-2.ensures ∙ long-past c.loop-n.invariant _ _ c.rest-text.ensures (omega arith)
