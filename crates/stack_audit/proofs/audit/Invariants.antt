-- `stack_audit::audit` meets its contract. The loop's invariant: what the walk has counted, with what is ahead of it, is what the layout's walk
-- finds. Assumes nothing.
use mathlib.Core.Path.{◌≡◌}
use Prim.Native.Nat.{◌-◌}
use lib.ListN.{length}
use Rattle.stack_layout.specs.Ops.{stack_ops}
use Rattle.stack_audit_laws.specs.Rest.{rest, Kept}
use Rattle.stack_audit.proofs.audit.Given as goal

abbrev pub invariant-loop-q : goal.invariant-loop-q
invariant-loop-q l =
    Kept (length l.primary) l.q l.w × ((stack_ops (length l.primary)).audit (l.primary, l.secondary) ≡ rest l.primary l.secondary l.q l.w)

abbrev pub decreases-loop-q : goal.decreases-loop-q
decreases-loop-q l = length l.primary - l.q
