-- `stack_stamp::first_bits` meets its contract: one arm for each beginning. Assumes nothing.
use native.Mathlib.Omega.{arith}
use Rattle.stack_layout.specs.Code.{low_bits}
use Rattle.stack_stamp.proofs.first_bits.Goals as goal

pub returns-in-Unwritten : goal.returns-in-Unwritten
unfolding low_bits
returns-in-Unwritten c = (rw c.in-Unwritten.is, omega arith)

pub returns-in-Written : goal.returns-in-Written
unfolding low_bits
returns-in-Written c = (rw c.in-Written.is, omega arith)

pub returns-in-Literal : goal.returns-in-Literal
unfolding low_bits
returns-in-Literal c = (rw c.in-Literal.is, omega arith)
