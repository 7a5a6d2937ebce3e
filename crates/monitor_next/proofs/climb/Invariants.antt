-- `monitor_next::climb` meets its contract. The invariant: the climb from the first address comes to what it comes to from the present
-- one. The measure is what is left of the areas. Assumes nothing.
use mathlib.Core.Path.{◌≡◌, refl, sym, ap, ◌∙◌}
use Prim.Native.Nat.{ℕ, ◌-◌, ◌≤◌, ◌<◌}
use native.Mathlib.Omega.{arith}
use Rattle.plain.specs.Areas.{map_rules}
use Rattle.plain.specs.Ops.{read_any}
use Rattle.plain.proofs.ClimbLaws.{from, climb-end}
use Rattle.shadows.specs.Shadows.{Shadows, shadow_ops}
use Rattle.monitor_base.proofs.LocatingLaws.{heap-lengths, stack-lengths, ends}
use Rattle.monitor_read_laws.proofs.AskingLaws.{there}
use Rattle.monitor_read_laws.proofs.SkippingLaws.{skips, goes_at, damaged-at, first-at}
use Rattle.monitor_next.specs.Searched.{search_of}
use borrow.Author.Rules.{rules}
use Rattle.map.specs.FormMap.{under}
use Rattle.monitor_next.proofs.climb.Given as goal

abbrev pub invariant-loop-at : goal.invariant-loop-at
invariant-loop-at l =
    let rd = read_any (map_rules (under l.form l.map)) (shadow_ops (under l.form l.map)) (l.heap, (l.primary, l.secondary)) in
    from rd (map_rules (under l.form l.map)).top l.initial.at.0 ≡ from rd (map_rules (under l.form l.map)).top l.at.0

abbrev pub decreases-loop-at : goal.decreases-loop-at
decreases-loop-at l = (map_rules (under l.form l.map)).top - l.at.0
