-- `stack_audit_pieces::pieces` meets its contract. Assumes nothing.
use mathlib.Core.Path.{◌≡◌}
use Prim.Native.Nat.{◌-◌, ◌%◌, ◌≤◌}
use Rattle.number.specs.Parts.{at, run_of, odd_bytes}
use Rattle.stack_audit_laws.specs.Runs.{stands_at}
use Rattle.stack_audit_pieces.proofs.pieces.Given as goal

abbrev pub invariant-loop-n : goal.invariant-loop-n
invariant-loop-n l =
    (l.n % 8 ≡ 0) × (l.n ≤ l.end) × (run_of (stands_at l.primary l.secondary l.at l.len l.i l.literal) 0 l.n ≡ l.n)
    × (l.written ≡ odd_bytes (at l.primary) l.at l.n)

abbrev pub decreases-loop-n : goal.decreases-loop-n
decreases-loop-n l = l.end - l.n
