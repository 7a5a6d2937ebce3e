-- `calls_input::settle` meets its contract. Assumes nothing.
use mathlib.Core.Path.{◌≡◌}
use Prim.Native.Nat.{◌+◌, ◌-◌, ◌≤◌, ◌<◌}
use native.Mathlib.Omega.{arith}
use lib.ListN.{length, drop, length-set, length-drop}
use lib.Seq.{paste, paste-zero}
use Rattle.calls_format.proofs.CopyLaws.{copy_step, later-read}
use borrow.Author.Rules.{rules}
use Rattle.calls_input.proofs.settle.Given as goal

abbrev pub invariant-loop-i : goal.invariant-loop-i
invariant-loop-i l = (l.i ≤ l.i-end) × (length l.buffer ≡ length l.initial.buffer) × (l.buffer ≡ paste l.initial.buffer 0 (drop l.from l.initial.buffer) l.i)

abbrev pub decreases-loop-i : goal.decreases-loop-i
decreases-loop-i l = l.i-end - l.i
