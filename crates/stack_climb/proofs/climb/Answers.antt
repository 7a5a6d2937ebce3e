-- `stack_climb::climb` meets its contract: the bytes passed climb by 4, the others are as they were. Assumes nothing.
use Rattle.std.proofs.Common.{◌≡◌, length, sym, arith}
use Rattle.number.proofs.PartLaws.{over_none}
use Rattle.stack_laws.proofs.FillLaws.{fill_step}
use Rattle.stack_climb.proofs.climb.Goals as goal

pub loop-b-init : goal.loop-b-init
loop-b-init c = record { next = omega arith; filled = sym (over_none 0 _ _) }

pub loop-b-preserved : goal.loop-b-preserved
loop-b-preserved c =
    let l = c.loop-b in
    record { next = omega arith; filled = fill_step c.args.part.now l.part l.b-index l.byte _ c.loop-b-test.true l.invariant.filled l.invariant.next }

pub returns : goal.returns
returns c =
    let e : c.loop-b.b-index ≡ length c.args.part.now = omega arith in
    rw e at c.loop-b.invariant.filled
