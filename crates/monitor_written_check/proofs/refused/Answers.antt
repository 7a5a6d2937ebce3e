-- `monitor_written_check::refused` meets its contract. Assumes nothing.
use Rattle.std.proofs.Common.{refl}
use native.Mathlib.Omega.{arith}
use borrow.Author.Tests.{le-leb}
use Rattle.number.proofs.BitLaws.{mask-two}
use Rattle.monitor_written_check.proofs.refused.Goals as goal

pub returns-then-literals-bits : goal.returns-then-literals-bits
returns-then-literals-bits c = rw (c.in-Block.is, le-leb _ _ c.if-len-offset.false, ← (mask-two _), c.if-literals-bits.true) (refl, λ z. omega arith)

pub returns-else-literals-bits : goal.returns-else-literals-bits
returns-else-literals-bits c = rw (c.in-Block.is, le-leb _ _ c.if-len-offset.false, ← (mask-two _), c.if-literals-bits.false)
