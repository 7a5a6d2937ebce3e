-- `monitor_climb::past` meets its contract: one arm for each area. Assumes nothing.
use mathlib.Core.Path.{◌≡◌}
use Prim.Native.Nat.{◌+◌, ◌%◌, ◌≤◌, ◌<◌}
use native.Mathlib.Omega.{arith}
use lib.ListN.{length}
use Rattle.monitor_read_laws.proofs.SkippingLaws.{same-lies, same-skips, lies-heap, lies-stack}
use borrow.Author.Rules.{rules}
use Rattle.map.specs.FormMap.{segment_size, under}
use Rattle.monitor_climb.proofs.past.Goals as goal
use Rattle.monitor_climb.proofs.past.Lts as place
use Rattle.monitor_climb.proofs.past.Reads as reads
use Rattle.monitor_climb.proofs.past.Tie as tie

-- steps of the code, by name
abbrev After-known_told : Type 0
After-known_told = place.Past-After-known_told tie.the-claims reads.Pre reads.Post

abbrev After-known_told2 : Type 0
After-known_told2 = place.Past-After-known_told2 tie.the-claims reads.Pre reads.Post

in-heap : (c : After-known_told) →
    (c.in-Heap.p.0 < length c.args.heap.now) × (length c.args.heap.now % segment_size c.args.form ≡ 0) × (length c.args.heap.now ≤ 131072)
    × (c.args.map.heap_start + length c.args.heap.now ≤ 4294967295)
in-heap c =
    let i = same-lies c.args.map c.args.a.0 c.args.l _ c.in-Heap.is c.requires.3 in
    lies-heap (under c.args.form c.args.map) c.args.heap.now c.args.primary.now c.requires.0 c.requires.1 c.requires.2 c.args.a.0 _ i.0 i.1

in_stack : (c : After-known_told2) →
    (c.in-Stack.p.0 < length c.args.primary.now) × (length c.args.primary.now ≤ 65536)
    × (c.args.map.stack_start + length c.args.primary.now ≤ 4294967295)
in_stack c =
    let i = same-lies c.args.map c.args.a.0 c.args.l _ c.in-Stack.is c.requires.3 in
    lies-stack (under c.args.form c.args.map) c.args.heap.now c.args.primary.now c.requires.0 c.requires.1 c.requires.2 c.args.a.0 _ i.0 i.1

pub past_segments-requires : goal.past_segments-requires
past_segments-requires c = let t = in-heap c.before in (t.0, t.1, t.2)

pub to_address-requires : goal.to_address-requires
to_address-requires c = omega (arith, (in-heap c.before.before).3, c.past_segments.ensures.1)

pub past_bytes-requires : goal.past_bytes-requires
past_bytes-requires c = let t = in_stack c.before in (t.0, t.1)

pub to_address-requires-in-Stack : goal.to_address-requires-in-Stack
to_address-requires-in-Stack c = omega (arith, (in_stack c.before.before).2, c.past_bytes.ensures.1)

pub returns-in-Heap : goal.returns-in-Heap
returns-in-Heap c =
    same-skips (under c.args.form c.args.map) c.args.heap.now c.args.primary.now c.args.a.0 _ c.args.l _ c.in-Heap.is
    (_, c.to_address.ensures, c.past_segments.ensures)

pub returns-in-Stack : goal.returns-in-Stack
returns-in-Stack c =
    same-skips (under c.args.form c.args.map) c.args.heap.now c.args.primary.now c.args.a.0 _ c.args.l _ c.in-Stack.is
    (_, c.to_address-in-Stack.ensures, c.past_bytes.ensures)

pub returns-in-Outside : goal.returns-in-Outside
returns-in-Outside c =
    same-skips (under c.args.form c.args.map) c.args.heap.now c.args.primary.now c.args.a.0 _ c.args.l _ c.in-Outside.is c.start_above.ensures
