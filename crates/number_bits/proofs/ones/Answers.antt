-- `number_bits::ones` meets its contract. Assumes nothing.
use lib.Count.{ones-le}
use Rattle.number.proofs.BitLaws.{ones-all}
use Rattle.number_bits.proofs.ones.Goals as goal

pub returns : goal.returns
returns c = (ones-all 8 c.args.byte c.ranges.byte.fits, ones-le 8 c.args.byte c.ranges.byte.fits)
