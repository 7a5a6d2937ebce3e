-- `stack_audit_bytes::short_length` meets its contract: each test is one of the rule's. Assumes nothing.
use native.Mathlib.Omega.{arith}
use borrow.Author.Tests.{le-leb, lt-leb}
use Rattle.stack_layout.specs.Code.{short_code, length_from, short_length}
use Rattle.stack_audit_bytes.proofs.short_length.Goals as goal

pub returns-then-code-le1 : goal.returns-then-code-le1
unfolding short_length length_from short_code
returns-then-code-le1 c = let x = c.before.args.code in rw (lt-leb 29 x (omega arith), lt-leb 22 x (omega arith), lt-leb 16 x (omega arith), lt-leb 11 x (omega arith), lt-leb 7 x (omega arith), lt-leb 4 x (omega arith), lt-leb 2 x (omega arith), le-leb 1 x (omega arith))

pub returns-then-code-le3 : goal.returns-then-code-le3
unfolding short_length length_from short_code
returns-then-code-le3 c = let x = c.before.before.args.code in rw (lt-leb 29 x (omega arith), lt-leb 22 x (omega arith), lt-leb 16 x (omega arith), lt-leb 11 x (omega arith), lt-leb 7 x (omega arith), lt-leb 4 x (omega arith), le-leb 2 x (omega arith))

pub returns-then-code-le6 : goal.returns-then-code-le6
unfolding short_length length_from short_code
returns-then-code-le6 c = let x = c.before.before.before.args.code in rw (lt-leb 29 x (omega arith), lt-leb 22 x (omega arith), lt-leb 16 x (omega arith), lt-leb 11 x (omega arith), lt-leb 7 x (omega arith), le-leb 4 x (omega arith))

pub returns-then-code-le10 : goal.returns-then-code-le10
unfolding short_length length_from short_code
returns-then-code-le10 c = let x = c.before.before.before.before.args.code in rw (lt-leb 29 x (omega arith), lt-leb 22 x (omega arith), lt-leb 16 x (omega arith), lt-leb 11 x (omega arith), le-leb 7 x (omega arith))

pub returns-then-code-le15 : goal.returns-then-code-le15
unfolding short_length length_from short_code
returns-then-code-le15 c = let x = c.before.before.before.before.before.args.code in rw (lt-leb 29 x (omega arith), lt-leb 22 x (omega arith), lt-leb 16 x (omega arith), le-leb 11 x (omega arith))

pub returns-then-code-le21 : goal.returns-then-code-le21
unfolding short_length length_from short_code
returns-then-code-le21 c = let x = c.before.before.before.before.before.before.args.code in rw (lt-leb 29 x (omega arith), lt-leb 22 x (omega arith), le-leb 16 x (omega arith))

pub returns-then-code-le28 : goal.returns-then-code-le28
unfolding short_length length_from short_code
returns-then-code-le28 c = let x = c.before.before.before.before.before.before.before.args.code in rw (lt-leb 29 x (omega arith), le-leb 22 x (omega arith))

pub returns : goal.returns
unfolding short_length length_from short_code
returns c = let x = c.before.before.before.before.before.before.before.args.code in rw (le-leb 29 x (omega arith))
