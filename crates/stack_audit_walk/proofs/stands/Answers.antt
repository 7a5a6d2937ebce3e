-- `stack_audit_walk::stands` meets its contract. Assumes nothing.
use native.Mathlib.Omega.{arith}
use borrow.Author.Tests.{eq-eqb, ne_eqb}
use Rattle.number.proofs.BitLaws.{pack-or}
use Rattle.stack_layout.specs.Code.{primary_of}
use Rattle.stack_audit_laws.specs.Turn.{stands}
use Rattle.stack_audit_walk.proofs.stands.Goals as goal

pub returns-then-k-eq0 : goal.returns-then-k-eq0
unfolding stands
returns-then-k-eq0 c = rw (eq-eqb _ _ c.if-k-eq0.true)

pub returns : goal.returns
unfolding stands primary_of
returns c =
    let k = c.code_at in
    let m = c.low_bits in
    rw (
      ne_eqb _ _ c.if-k-eq0.false,
      pack-or k.result m.result (omega (arith, k.ensures.1)) m.ensures.1,
      k.ensures.0,
      m.ensures.0,
      c.secondary_at.ensures,
    )
