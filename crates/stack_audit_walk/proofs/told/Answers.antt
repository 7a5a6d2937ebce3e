-- `stack_audit_walk::told` meets its contract. Assumes nothing.
use borrow.Author.Tests.{le-leb, lt-leb}
use Rattle.stack_layout.specs.Code.{short_code, length_from, short_length}
use Rattle.stack_audit_laws.specs.Turn.{told}
use Rattle.stack_audit_walk.proofs.told.Goals as goal

pub returns-then-code-eq0 : goal.returns-then-code-eq0
unfolding told short_length length_from short_code
returns-then-code-eq0 c = rw c.if-code-eq0.true

pub returns-then-code-le36 : goal.returns-then-code-le36
unfolding told
returns-then-code-le36 c = rw (le-leb _ _ c.if-code-le36.true) c.short_length.ensures

pub returns-then-at-secondary : goal.returns-then-at-secondary
unfolding told
returns-then-at-secondary c = rw (lt-leb _ _ c.if-code-le36.false, c.requires.1, le-leb _ _ c.if-at-secondary.true) c.number_at.ensures

pub returns : goal.returns
unfolding told
returns c = rw (lt-leb _ _ c.if-code-le36.false, c.requires.1, lt-leb _ _ c.if-at-secondary.false)
