-- `stack_audit_bytes::first_byte` meets its contract. Assumes nothing.
use native.Mathlib.Omega.{arith}
use Rattle.stack_audit_bytes.proofs.first_byte.Goals as goal

pub returns-then-literal : goal.returns-then-literal
returns-then-literal c = rw c.if-literal.true (omega arith, omega arith)

pub returns-else-literal : goal.returns-else-literal
returns-else-literal c = rw c.if-literal.false (omega arith, omega arith)
