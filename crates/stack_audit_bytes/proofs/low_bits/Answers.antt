-- `stack_audit_bytes::low_bits` meets its contract. Assumes nothing.
use mathlib.Core.Path.{refl}
use Prim.Native.Nat.{◌%◌}
use native.Mathlib.Omega.{arith}
use native.Mathlib.Nat.{mod-lt, zero-add}
use lib.Bits.{and_mask}
use lib.Dec.{lit<}
use Rattle.number.proofs.BitLaws.{bit_test}
use Rattle.stack_layout.specs.Code.{low_bits}
use Rattle.stack_audit_bytes.proofs.low_bits.Goals as goal

pub returns-then-literal : goal.returns-then-literal
unfolding low_bits
returns-then-literal c = (rw c.if-literal.true, omega arith)

pub returns-else-literal : goal.returns-else-literal
unfolding low_bits
returns-else-literal c =
    let x = c.before.args.x in
    rw (c.if-literal.false, and_mask x 1, bit_test (x % 2) (mod-lt x (lit< tt)), zero-add (x % 2)) (refl, omega arith)
