-- `calls_all::all` meets its contract. Assumes nothing.
use mathlib.Core.Path.{◌≡◌, ap, ◌∙◌}
use mathlib.Core.Logic.{inl, inr, ⊎_elim}
use Prim.Native.Nat.{◌-◌, ◌≤◌}
use native.Mathlib.Omega.{arith}
use lib.ListN.{length}
use borrow.Author.Rules.{rules}
use borrow.Author.Tests.{not-true, not-false}
use Rattle.map.specs.declared.Map.{Map}
use Rattle.calls_format.specs.Kept.{kept}
use Rattle.calls_file.specs.Turn.{Goes}
use Rattle.calls_file.specs.Ran.{Ran}
use Rattle.calls_file.proofs.RanLaws.{begun-goes, ran-none, ran-more}
use Rattle.calls_turn.specs.Point.{point_of}
use Rattle.calls_all.proofs.all.Given as goal

abbrev pub invariant-loop : goal.invariant-loop
invariant-loop l =
    (l.counter ≤ 18446744073709551615) × Goes l.run × Ran (point_of l.run l.heap l.primary l.secondary l.bytes l.lines) l.counter × (length l.bytes ≡ 65536)

abbrev pub decreases-loop : goal.decreases-loop
decreases-loop l = 18446744073709551615 - l.counter
