-- `stack_audit_far::far` meets its contract. Assumes nothing.
use mathlib.Core.Path.{◌≡◌, refl, sym}
use Prim.Native.Nat.{◌-◌, ◌%◌, ◌≤◌}
use native.Mathlib.Omega.{arith}
use borrow.Author.Rules.{rules}
use Rattle.number.specs.Parts.{at, run_of, odd_bytes}
use Rattle.number.proofs.WordLaws.{odds-le, odds-split}
use Rattle.stack_audit_laws.specs.Runs.{stands_at}
use Rattle.stack_audit_laws.proofs.FarLaws.{stretch-more}
use Rattle.stack_audit_far.proofs.far.Given as goal

abbrev pub invariant-loop-n : goal.invariant-loop-n
invariant-loop-n l =
    (l.n % 8 ≡ 0) × (l.n ≤ l.end) × (run_of (stands_at l.primary l.secondary l.p l.len l.i l.literal) 0 l.n ≡ l.n) × (l.written ≡ odd_bytes (at l.primary) l.p l.n)

abbrev pub decreases-loop-n : goal.decreases-loop-n
decreases-loop-n l = l.end - l.n
