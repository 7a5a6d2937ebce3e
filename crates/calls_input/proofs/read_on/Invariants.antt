-- `calls_input::read_on` meets its contract. Assumes nothing.
use mathlib.Core.Path.{◌≡◌, refl, ◌∙◌}
use Prim.Native.Nat.{ℕ, ◌-◌, ◌≤◌}
use native.Mathlib.Omega.{arith}
use mathlib.Core.Bool.{false}
use lib.ListN.{length, take}
use Rattle.calls_format.proofs.CopyLaws.{before-part}
use Rattle.calls_window.proofs.WindowLaws.{refilled}
use borrow.Author.Rules.{rules}
use Rattle.calls_input.proofs.read_on.Given as goal

abbrev pub invariant-loop : goal.invariant-loop
invariant-loop l =
    (l.counter ≤ 20) × (l.filled ≤ length l.buffer) × (length l.buffer ≡ length l.initial.buffer)
    × (l.counter ≤ l.filled) × (l.end - l.from ≤ l.filled) × (take (l.end - l.from) l.buffer ≡ take (l.end - l.from) l.initial.buffer)

abbrev pub decreases-loop : goal.decreases-loop
decreases-loop l = 20 - l.counter
