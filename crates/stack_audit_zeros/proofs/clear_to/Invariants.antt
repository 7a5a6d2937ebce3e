-- `stack_audit_zeros::clear_to` meets its contract. Assumes nothing.
use mathlib.Core.Path.{◌≡◌}
use Prim.Native.Nat.{◌-◌, ◌≤◌}
use lib.ListN.{length}
use Rattle.stack_audit_laws.specs.Runs.{clear_to}
use Rattle.stack_audit_zeros.proofs.clear_to.Given as goal

abbrev pub invariant-loop-p : goal.invariant-loop-p
invariant-loop-p l = (l.p ≤ length l.primary) × (clear_to l.primary l.secondary l.initial.p ≡ clear_to l.primary l.secondary l.p)

abbrev pub decreases-loop-p : goal.decreases-loop-p
decreases-loop-p l = length l.primary - l.p

abbrev pub invariant-loop-p-2 : goal.invariant-loop-p-2
invariant-loop-p-2 l = (l.p ≤ length l.primary) × (clear_to l.primary l.secondary l.initial.p ≡ clear_to l.primary l.secondary l.p)

abbrev pub decreases-loop-p-2 : goal.decreases-loop-p-2
decreases-loop-p-2 l = length l.primary - l.p
