-- `monitor_climb_bytes::past_bytes` meets its contract. The invariants: the bytes passed by now are 0. Assumes nothing.
use mathlib.Core.Path.{◌≡◌, sym, ◌∙◌}
use Prim.Native.Nat.{ℕ, ◌+◌, ◌-◌, ◌≤◌, ◌<◌}
use native.Mathlib.Omega.{arith}
use lib.ListN.{length}
use Rattle.number.specs.Parts as bytes
use Rattle.number.proofs.TestLaws.{and-true}
use Rattle.monitor_read_laws.proofs.ClimbingLaws.{zero-run, zero-eight, zero-low}
use borrow.Author.Rules.{rules}
use Rattle.monitor_climb_bytes.proofs.past_bytes.Given as goal

abbrev pub invariant-loop-at : goal.invariant-loop-at
invariant-loop-at l = (l.initial.at ≤ l.at) × (l.at ≤ length l.primary) × ((x : ℕ) → l.initial.at ≤ x → x < l.at → bytes.at l.primary x ≡ 0)

abbrev pub decreases-loop-at : goal.decreases-loop-at
decreases-loop-at l = length l.primary - l.at

-- where the bytes before it are 0 from lo on, so are those passed
abbrev pub invariant-loop-at-2 : goal.invariant-loop-at-2
invariant-loop-at-2 l =
    (l.initial.at ≤ l.at) × (l.at ≤ length l.primary) × ((lo : ℕ) → ((x : ℕ) → lo ≤ x → x < l.initial.at → bytes.at l.primary x ≡ 0) → (x : ℕ) → lo ≤ x → x < l.at → bytes.at l.primary x ≡ 0)

abbrev pub decreases-loop-at-2 : goal.decreases-loop-at-2
decreases-loop-at-2 l = length l.primary - l.at
