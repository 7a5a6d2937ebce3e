-- `number_words::eight` meets its contract. Assumes nothing.
use Rattle.std.proofs.Common.{arith}
use Rattle.number.proofs.LittleLaws.{le8}
use Rattle.number_words.proofs.eight.Goals as goal

pub returns : goal.returns
returns c = omega (arith, le8 c.args.bytes.now c.requires, c.from_le_bytes.ensures)
