-- `monitor_ask::told` meets its contract. Assumes nothing.
use native.Mathlib.Omega.{arith}
use lib.Bits.{and_mask}
use Rattle.monitor_ask.proofs.told.Goals as goal

pub to_address-requires : goal.to_address-requires
to_address-requires c = omega (arith, rw c.in-Block.is at c.requires)

pub returns-in-Block : goal.returns-in-Block
returns-in-Block c = rw (c.in-Block.is, c.to_address.ensures, c.from.ensures, and_mask _ 1)
