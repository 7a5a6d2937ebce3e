-- `number_bits::zero_bytes` meets its contract. Assumes nothing.
use native.Mathlib.Omega.{arith}
use lib.Count.{trailing_le}
use Rattle.number.proofs.RunLaws.{zero-bytes}
use Rattle.number_bits.proofs.zero_bytes.Goals as goal

pub returns : goal.returns
returns c = (zero-bytes 8 c.args.x, omega (arith, trailing_le 64 c.args.x))
