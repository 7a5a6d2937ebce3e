-- `number_words::number` meets its contract. Assumes nothing.
use Rattle.std.proofs.Common.{arith}
use Rattle.number.proofs.LittleLaws.{le4}
use Rattle.number_words.proofs.number.Goals as goal

pub returns : goal.returns
returns c = omega (arith, le4 c.args.bytes.now c.requires, c.from_le_bytes.ensures)
