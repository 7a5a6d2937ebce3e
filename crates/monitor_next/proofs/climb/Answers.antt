-- `monitor_next::climb` meets its contract. The invariant: the climb from the first address comes to what it comes to from the present
-- one. The measure is what is left of the areas. Assumes nothing.
use mathlib.Core.Path.{◌≡◌, refl, sym, ap, ◌∙◌}
use Prim.Native.Nat.{ℕ, ◌-◌, ◌≤◌, ◌<◌}
use native.Mathlib.Omega.{arith}
use Rattle.plain.specs.Areas.{map_rules}
use Rattle.plain.specs.Ops.{read_any}
use Rattle.plain.proofs.ClimbLaws.{from, climb-end}
use Rattle.shadows.specs.Shadows.{Shadows, shadow_ops}
use Rattle.monitor_base.proofs.LocatingLaws.{heap-lengths, stack-lengths, ends}
use Rattle.monitor_read_laws.proofs.AskingLaws.{there}
use Rattle.monitor_read_laws.proofs.SkippingLaws.{skips, goes_at, damaged-at, first-at}
use Rattle.monitor_next.specs.Searched.{search_of}
use borrow.Author.Rules.{rules}
use Rattle.map.specs.FormMap.{under}
use Rattle.monitor_next.proofs.climb.Goals as goal
use Rattle.monitor_next.proofs.climb.Lts as place
use Rattle.monitor_next.proofs.climb.Reads as reads
use Rattle.monitor_next.proofs.climb.Tie as tie

-- steps of the code, by name
abbrev Start : Type 0
Start = place.Start tie.the-claims reads.Pre reads.Post goal.the-invariant-loop-at goal.the-decreases-loop-at

abbrev At-loop : Type 0
At-loop = place.At-loop tie.the-claims reads.Pre reads.Post goal.the-invariant-loop-at goal.the-decreases-loop-at

abbrev Else1 : Type 0
Else1 = place.Else1 tie.the-claims reads.Pre reads.Post goal.the-invariant-loop-at goal.the-decreases-loop-at

abbrev After-past : Type 0
After-past = place.After-past tie.the-claims reads.Pre reads.Post goal.the-invariant-loop-at goal.the-decreases-loop-at

abbrev shadows : Start → Shadows
shadows c = (c.args.heap.now, (c.args.primary.now, c.args.secondary.now))

abbrev here : At-loop → ℕ
here c = c.loop-at.at.0

low : (c : Else1) → here c.before.before.before < (map_rules (under (c).args.form (c).args.map)).top
low c = omega (arith, c.if-top-at.false, c.top-top.ensures)

-- where the climb goes on
goes : (c : After-past) →
    let rd = read_any (map_rules (under c.args.form c.args.map)) (shadow_ops (under c.args.form c.args.map)) (shadows c.before.before.before.before.before.before.before.before.before.before.before.before.before.before.before) in
    let top = (map_rules (under c.args.form c.args.map)).top in
    (here c.before.before.before.before.before.before.before.before.before.before < c.past-at.result.0) × (c.past-at.result.0 ≤ top) × (from rd top (here c.before.before.before.before.before.before.before.before.before.before) ≡ from rd top c.past-at.result.0)
goes c =
    skips (under c.args.form c.args.map) (shadows c.before.before.before.before.before.before.before.before.before.before.before.before.before.before.before) c.requires.0 c.requires.1 (here c.before.before.before.before.before.before.before.before.before.before) c.locate-l.result c.locate-l.ensures (low c.before.before.before.before.before.before.before)
    (goes_at (under c.args.form c.args.map) (shadows c.before.before.before.before.before.before.before.before.before.before.before.before.before.before.before) c.requires.0 c.requires.1 (here c.before.before.before.before.before.before.before.before.before.before) c.locate-l.result c.locate-l.ensures _ c.reading-r.ensures
    (sym c.damaged.ensures ∙ c.if-damaged.false) (sym c.first.ensures ∙ c.if-first.false)) _ c.past-at.ensures

pub top-top-requires : goal.top-top-requires
top-top-requires c =
    ends (under c.args.form c.args.map) (shadows c.before.before.before.before) c.requires.0 c.requires.1

pub loop-at-init : goal.loop-at-init
loop-at-init c = refl

pub reading-r-requires : goal.reading-r-requires
reading-r-requires c =
    there (under c.args.form c.args.map) (shadows c.before.before.before.before.before.before.before.before.before.before) c.requires.0 c.requires.1 (here c.before.before.before.before.before) c.locate-l.result c.locate-l.ensures

pub past-at-requires : goal.past-at-requires
past-at-requires c =
    (c.requires.0, (heap-lengths (under c.args.form c.args.map) (shadows c.before.before.before.before.before.before.before.before.before.before.before.before.before.before.before) c.requires.0 c.requires.1).0, (stack-lengths (under c.args.form c.args.map) (shadows c.before.before.before.before.before.before.before.before.before.before.before.before.before.before.before) c.requires.0 c.requires.1).0, c.locate-l.ensures)

pub loop-at-smaller : goal.loop-at-smaller
loop-at-smaller c = omega (arith, (goes c.before).0, (goes c.before).1)

pub loop-at-preserved : goal.loop-at-preserved
loop-at-preserved c = c.loop-at.invariant ∙ (goes c.before).2

pub returns-then-top-at : goal.returns-then-top-at
returns-then-top-at c =
    sym (ap search_of (c.loop-at.invariant ∙ climb-end _ _ (here c.before.before.before.before) (omega (arith, c.if-top-at.true, c.top-top.ensures))))

pub returns-then-damaged : goal.returns-then-damaged
returns-then-damaged c =
    sym (ap search_of (c.loop-at.invariant ∙ damaged-at (under c.args.form c.args.map) (shadows c.before.before.before.before.before.before.before.before.before.before.before.before.before) c.requires.0 c.requires.1 (here c.before.before.before.before.before.before.before.before) c.locate-l.result c.locate-l.ensures (low c.before.before.before.before.before)
    _ c.reading-r.ensures (sym c.damaged.ensures ∙ c.if-damaged.true)))

pub returns-then-first : goal.returns-then-first
returns-then-first c =
    let t = first-at (under c.args.form c.args.map) (shadows c.before.before.before.before.before.before.before.before.before.before.before.before.before.before.before.before) c.requires.0 c.requires.1 (here c.before.before.before.before.before.before.before.before.before.before.before) c.locate-l.result c.locate-l.ensures (low c.before.before.before.before.before.before.before.before)
    _ c.reading-r.ensures (sym c.first.ensures ∙ c.if-first.true) in
    rw c.length_of.ensures (sym (ap search_of (c.loop-at.invariant ∙ t.2)))
