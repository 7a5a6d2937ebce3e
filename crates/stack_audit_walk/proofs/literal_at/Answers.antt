-- `stack_audit_walk::literal_at` meets its contract. Assumes nothing.
use Prim.Native.Nat.{◌-◌}
use Rattle.number.specs.Parts.{at}
use Rattle.number.proofs.BitLaws.{mask-two}
use Rattle.stack_audit_laws.specs.Turn.{literal_at}
use Rattle.stack_audit_walk.proofs.literal_at.Goals as goal

pub returns : goal.returns
unfolding literal_at
returns c =
    let a = c.args in
    mask-two (at a.primary.now (a.q.0 - a.i))
