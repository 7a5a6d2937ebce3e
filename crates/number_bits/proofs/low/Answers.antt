-- `number_bits::low` meets its contract. Assumes nothing.
use Rattle.number.proofs.WordLaws.{and_low}
use Rattle.number_bits.proofs.low.Goals as goal

pub returns : goal.returns
returns c = and_low c.args.x c.args.n c.requires.1
