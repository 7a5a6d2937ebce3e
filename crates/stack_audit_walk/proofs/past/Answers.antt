-- `stack_audit_walk::past` meets its contract. Assumes nothing.
use native.Mathlib.Nat.{add-zero}
use borrow.Author.Tests.{le-leb, lt-leb}
use Rattle.stack_audit_laws.specs.Turn.{past}
use Rattle.stack_audit_walk.proofs.past.Goals as goal

pub returns-then-k-i : goal.returns-then-k-i
unfolding past
returns-then-k-i c = rw (le-leb _ _ c.if-k-i.true)

pub returns : goal.returns
unfolding past
returns c = rw (lt-leb _ _ c.if-k-i.false, add-zero)
