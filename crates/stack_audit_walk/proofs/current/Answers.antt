-- `stack_audit_walk::current` meets its contract. Assumes nothing.
use borrow.Author.Tests.{eq-eqb, ne_eqb, le-leb, lt-leb}
use Rattle.stack_audit_laws.specs.Turn.{current}
use Rattle.stack_audit_walk.proofs.current.Goals as goal

pub returns-then-len-ne0 : goal.returns-then-len-ne0
unfolding current
returns-then-len-ne0 c = rw (ne_eqb _ _ c.if-len-ne0.true)

pub returns-then-q-l : goal.returns-then-q-l
unfolding current
returns-then-q-l c = rw (eq-eqb _ _ c.if-len-ne0.false, ← c.told-l.ensures, le-leb _ _ c.if-q-l.true)

pub returns : goal.returns
unfolding current
returns c = rw (eq-eqb _ _ c.if-len-ne0.false, ← c.told-l.ensures, lt-leb _ _ c.if-q-l.false)
