-- `map::Map::good` meets its contract: apart, one area lies below the other, in one of two orders. Assumes nothing.
use Rattle.std.proofs.Common.{◌≡◌, true, sym, arith}
use borrow.Author.Tests.{not-true, not-false}
use Rattle.number.proofs.TestLaws.{false_of, not-both}
use Rattle.map.specs.Map.{good_map}
use Rattle.map.specs.FormMap.{under}
use Rattle.map.proofs.MapLaws.{whole, good-whole, heap-lower, stack-lower, none-lower}
use Rattle.map.proofs.Map.good.Goals as goal
use Rattle.map.proofs.Map.good.Lts as place
use Rattle.map.proofs.Map.good.Reads as reads
use Rattle.map.proofs.Map.good.Tie as tie

pub returns-then-not-heap-stack : goal.returns-then-not-heap-stack
returns-then-not-heap-stack c =
    let m = under c.args.form c.args.self in
    sym (false_of (good_map m) (λ t. not-both _ (good-whole m t) (rw (← c.in_segments.ensures) (not-true _ c.if-not-heap-stack.true-raw))))

-- the tests have passed
sized : (c : place.Else1 tie.the-claims reads.Pre reads.Post) → whole (under c.args.form c.args.self) ≡ true
sized c = rw (← c.in_segments.ensures) (not-false _ c.if-not-heap-stack.false-raw)

pub returns-then-below : goal.returns-then-below
returns-then-below c =
    heap-lower (under c.args.form c.args.self) (sized c.before.before) (omega arith) (rw (← c.below.ensures) c.if-below.true)

pub returns-then-below-2 : goal.returns-then-below-2
returns-then-below-2 c =
    stack-lower (under c.args.form c.args.self) (sized c.before.before.before.before) (omega arith) (rw (← c.below-2.ensures) c.if-below-2.true)

pub returns : goal.returns
returns c =
    sym (none-lower (under c.args.form c.args.self) (rw (← c.below.ensures) c.if-below.false)
    (rw (← c.below-2.ensures) c.if-below-2.false))
