-- `map::Map::locate` meets its contract. Assumes nothing.
use Rattle.std.proofs.Common.{◌≡◌, false, arith}
use Rattle.map.specs.Map.{within, area_of}
use Rattle.map.proofs.MapLaws.{above_within, above-outside}
use Rattle.map.proofs.Map.locate.Goals as goal
use Rattle.map.proofs.Map.locate.Lts as place
use Rattle.map.proofs.Map.locate.Reads as reads
use Rattle.map.proofs.Map.locate.Tie as tie

-- the function's entry, from where the first position is known
abbrev entry : place.After-to_position tie.the-claims reads.Pre reads.Post → place.Start tie.the-claims reads.Pre reads.Post
entry c = c.before

-- not in the heap
past-heap : (c : place.Else1 tie.the-claims reads.Pre reads.Post) → let e = entry c.before.before.before in within e.args.self.heap_start e.args.self.heap_size e.args.a.0 ≡ false
past-heap c =
    let p = c.before.before.before in
    let e = entry p in
    above-outside e.args.self.heap_start e.args.self.heap_size e.args.a.0 _ p.to_position-p.ensures (omega arith)

pub returns-then-p-self : goal.returns-then-p-self
unfolding area_of
returns-then-p-self c =
    let p = c.before.before.before in
    let e = entry p in
    let h = above_within e.args.self.heap_start e.args.self.heap_size e.args.a.0 _ (omega arith) p.to_position-p.ensures (omega arith) in
    (rw h.0, h.1)

pub returns-then-q-self : goal.returns-then-q-self
unfolding area_of
returns-then-q-self c =
    let q = c.before.before.before in
    let e = entry q.before.before.before.before in
    let h = above_within e.args.self.stack_start e.args.self.stack_size e.args.a.0 _ (omega arith) q.to_position-q.ensures (omega arith) in
    (rw (past-heap q.before, h.0), h.1)

pub returns : goal.returns
unfolding area_of
returns c =
    let q = c.before.before.before in
    let e = entry q.before.before.before.before in
    rw (
      past-heap q.before,
      above-outside e.args.self.stack_start e.args.self.stack_size e.args.a.0 _ q.to_position-q.ensures (omega arith),
    )
