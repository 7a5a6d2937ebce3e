-- `stack_audit_far::piece_bytes` meets its contract. Assumes nothing.
use Rattle.stack_audit_far.proofs.piece_bytes.Goals as goal

pub returns-then-literal : goal.returns-then-literal
returns-then-literal c = rw c.if-literal.true

pub returns-else-literal : goal.returns-else-literal
returns-else-literal c = rw c.if-literal.false
