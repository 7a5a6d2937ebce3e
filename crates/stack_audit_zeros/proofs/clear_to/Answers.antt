-- `stack_audit_zeros::clear_to` meets its contract. Assumes nothing.
use mathlib.Core.Path.{refl, sym, ◌∙◌}
use native.Mathlib.Omega.{arith}
use Rattle.number.proofs.TestLaws.{and-true}
use Rattle.stack_audit_laws.proofs.ClearLaws.{clear-far, clear_next, clear-found, clear-end}
use Rattle.stack_audit_zeros.proofs.clear_to.Goals as goal

pub loop-p-init : goal.loop-p-init
loop-p-init c = (omega arith, refl)

pub loop-p-preserved : goal.loop-p-preserved
loop-p-preserved c =
    let a = c.args in
    let e = and-true c.zero_32.result c.zero_32-in-loop-p.result c.if-zero_32.true in (
      omega arith,
      c.loop-p.invariant.1 ∙ clear-far a.primary.now a.secondary.now c.loop-p.p (omega arith) (sym c.zero_32.ensures ∙ e.0)
          (sym c.zero_32-in-loop-p.ensures ∙ e.1),
    )

pub loop-p-2-init : goal.loop-p-2-init
loop-p-2-init c = (c.loop-p.invariant.0, refl)

pub returns-then-both-ne0 : goal.returns-then-both-ne0
returns-then-both-ne0 c =
    let a = c.args in
    sym (c.loop-p.invariant.1 ∙ c.loop-p-2.invariant.1 ∙ clear-found a.primary.now a.secondary.now c.loop-p-2.p _
    (λ q. (c.type_inv.primary q).fits) (λ q. (c.type_inv.secondary q).fits)
    (rw (c.eight_at.ensures, c.eight_at-in-loop-p-2.ensures)) (omega arith) c.zero_bytes.result c.if-both-ne0.true c.zero_bytes.ensures.0)

pub loop-p-2-preserved : goal.loop-p-2-preserved
loop-p-2-preserved c =
    let a = c.args in (
      omega arith,
      c.loop-p-2.invariant.1 ∙ clear_next a.primary.now a.secondary.now c.loop-p-2.p _
          (λ q. (c.type_inv.primary q).fits) (λ q. (c.type_inv.secondary q).fits)
          (rw (c.eight_at.ensures, c.eight_at-in-loop-p-2.ensures)) (omega arith) c.if-both-ne0.false,
    )

pub returns : goal.returns
returns c =
    let a = c.args in
    sym (c.loop-p.invariant.1 ∙ c.loop-p-2.invariant.1 ∙ clear-end a.primary.now a.secondary.now c.loop-p-2.p (omega arith))
