-- `stack_audit_bytes::code_at` meets its contract. Assumes nothing.
use native.Mathlib.Omega.{arith}
use borrow.Author.Tests.{le-leb, lt-leb}
use Rattle.stack_layout.specs.Code.{short_code, code_of}
use Rattle.stack_audit_bytes.proofs.code_at.Goals as goal

pub returns-then-len-le8 : goal.returns-then-len-le8
unfolding code_of short_code
returns-then-len-le8 c = (rw (le-leb _ _ c.before.if-len-le8.true, c.codes_below.ensures.0), omega arith)

pub returns : goal.returns
unfolding code_of
returns c = (rw (lt-leb _ _ c.before.if-len-le8.false, c.piece_of.ensures.0), omega arith)
