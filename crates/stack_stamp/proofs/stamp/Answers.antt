-- `stack_stamp::stamp` meets its contract: what is written to each shadow is what a block makes of it as it begins. Assumes nothing.
use native.Mathlib.Omega.{arith}
use Rattle.stack_laws.proofs.StampLaws.{vacant-secondary, stamped}
use Rattle.stack_stamp.proofs.stamp.Goals as goal

pub stamp_secondary-requires : goal.stamp_secondary-requires
stamp_secondary-requires c =
    (omega arith, omega arith, vacant-secondary c.args.primary.now c.args.secondary.now c.args.base.0 c.args.len c.requires.4)

pub returns : goal.returns
returns c =
    let s = c.args in
    stamped s.how s.primary.now s.secondary.now _ _ s.base.0 s.len _ c.first_bits.ensures.0
    c.stamp_primary.ensures c.stamp_secondary.ensures
