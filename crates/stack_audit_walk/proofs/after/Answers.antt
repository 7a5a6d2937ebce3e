-- `stack_audit_walk::after` meets its contract. Assumes nothing.
use borrow.Author.Tests.{eq-eqb, ne_eqb}
use Rattle.stack_audit_laws.specs.Turn.{after}
use Rattle.stack_audit_walk.proofs.after.Goals as goal

pub returns-then-k-eq0 : goal.returns-then-k-eq0
unfolding after
returns-then-k-eq0 c = rw (eq-eqb _ _ c.if-k-eq0.true)

pub returns : goal.returns
unfolding after
returns c = rw (ne_eqb _ _ c.if-k-eq0.false, ← c.from.ensures) c.past.ensures
