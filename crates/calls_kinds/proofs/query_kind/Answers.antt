-- `calls_kinds::query_kind` meets its contract. Assumes nothing.
use borrow.Author.Rules.{rules}
use Rattle.calls_kinds.proofs.query_kind.Goals as goal

pub returns-then-write : goal.returns-then-write
returns-then-write c = rw (c.in-Valid.is, c.if-write.true)

pub returns-else-write : goal.returns-else-write
returns-else-write c = rw (c.in-Valid.is, c.if-write.false)
