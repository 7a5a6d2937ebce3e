-- `stack_read::read` meets its contract: the code by shift, the two low bits by mask. Assumes nothing.
use Rattle.std.proofs.Common.{◌≡◌, ◌%◌, arith}
use lib.Bits.{and_mask}
use Rattle.number.specs.Parts.{at}
use Rattle.stack_layout.specs.Reading.{stack_reading, code_reading}
use Rattle.stack_read.proofs.read.Goals as goal

pub returns-then-byte-eq0 : goal.returns-then-byte-eq0
unfolding stack_reading code_reading
returns-then-byte-eq0 c =
    let e : at c.args.primary.now c.args.p.0 ≡ 0 = omega arith in
    rw e

pub returns : goal.returns
unfolding stack_reading
returns c =
    let b = at c.args.primary.now c.args.p.0 in
    rw (c.requires.1, ← (c.told-len.ensures (b % 4) (λ x y. omega arith)), ← (and_mask b 2)) c.fit.ensures
