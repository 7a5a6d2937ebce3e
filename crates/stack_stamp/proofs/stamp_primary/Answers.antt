-- `stack_stamp::stamp_primary` meets its contract: four bytes and eight are the words of their codes. Assumes nothing.
use mathlib.Core.Path.{sym}
use native.Mathlib.Omega.{arith}
use Rattle.stack_laws.proofs.StampLaws.{short-primary}
use Rattle.stack_laws.proofs.WordLaws.{put-primary, primary-four, primary-eight}
use Rattle.stack_stamp.proofs.stamp_primary.Goals as goal

pub returns-then-len-eq4 : goal.returns-then-len-eq4
returns-then-len-eq4 c =
    put-primary c.args.len 4 c.args.bits _ c.args.base.0 c.args.primary.now _ c.if-len-eq4.true (omega arith) c.requires.3
    (omega (arith, primary-four c.args.bits)) c.put_at.ensures

pub returns-then-len-eq8 : goal.returns-then-len-eq8
returns-then-len-eq8 c =
    put-primary c.args.len 8 c.args.bits _ c.args.base.0 c.args.primary.now _ c.if-len-eq8.true (omega arith) c.requires.3
    (sym (primary-eight c.args.bits)) (rw c.from-then-len-eq8.ensures at c.put_eight_at.ensures)

pub returns : goal.returns
returns c =
    short-primary c.args.base.0 c.args.len _ c.args.bits (omega arith) c.codes_below.ensures.0 c.args.primary.now _
    c.climb_at.ensures
