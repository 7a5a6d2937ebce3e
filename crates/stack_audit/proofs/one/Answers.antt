-- `stack_audit::one` meets its contract. Assumes nothing.
use native.Mathlib.Omega.{arith}
use lib.Bits.{bit_and, and_mask, mask_lt}
use Rattle.number.specs.Parts.{at}
use Rattle.stack_audit_laws.proofs.TurnLaws.{in_block, turned-bad, turned-one}
use Rattle.stack_audit.proofs.one.Goals as goal

pub stands-requires : goal.stands-requires
stands-requires c =
    in_block c.args.primary.now c.args.secondary.now c.args.q.0 c.args.w c.requires.0 c.args.k c.args.literal c.requires.1 c.requires.2

pub returns-then-not-stands : goal.returns-then-not-stands
returns-then-not-stands c =
    turned-bad c.args.primary.now c.args.secondary.now c.args.q.0 c.args.w c.requires.0 c.args.k c.args.literal c.requires.1 c.requires.2 _
    c.stands.ensures c.if-not-stands.true

pub after-requires : goal.after-requires
after-requires c = (
  in_block c.args.primary.now c.args.secondary.now c.args.q.0 c.args.w c.requires.0 c.args.k c.args.literal c.requires.1 c.requires.2,
  omega arith,
  omega arith,
  omega arith,
  mask_lt (at c.args.primary.now c.args.q.0) 1,
)

pub returns : goal.returns
returns c =
    let x = at c.args.primary.now c.args.q.0 in
    turned-one c.args.primary.now c.args.secondary.now c.args.q.0 c.args.w c.requires.0 c.args.k c.args.literal c.requires.1 c.requires.2 _
    c.stands.ensures c.if-not-stands.false
    (bit_and x 1) c.after.result (and_mask x 1) c.after.ensures
