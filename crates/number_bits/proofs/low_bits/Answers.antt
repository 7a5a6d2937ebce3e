-- `number_bits::low_bits` meets its contract. Assumes nothing.
use native.Mathlib.Omega.{arith}
use lib.Pow.{pow_pos}
use Rattle.number.proofs.BitLaws.{one_shifted}
use Rattle.number_bits.proofs.low_bits.Goals as goal

pub overflow_sub-result : goal.overflow_sub-result
overflow_sub-result c = omega (arith, one_shifted c.args.n c.requires, pow_pos c.args.n)

pub returns : goal.returns
returns c = omega (arith, one_shifted c.args.n c.requires, pow_pos c.args.n)
