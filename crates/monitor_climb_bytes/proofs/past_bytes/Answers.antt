-- `monitor_climb_bytes::past_bytes` meets its contract. The invariants: the bytes passed by now are 0. Assumes nothing.
use mathlib.Core.Path.{◌≡◌, sym, ◌∙◌}
use Prim.Native.Nat.{ℕ, ◌+◌, ◌-◌, ◌≤◌, ◌<◌}
use native.Mathlib.Omega.{arith}
use lib.ListN.{length}
use Rattle.number.specs.Parts as bytes
use Rattle.number.proofs.TestLaws.{and-true}
use Rattle.monitor_read_laws.proofs.ClimbingLaws.{zero-run, zero-eight, zero-low}
use borrow.Author.Rules.{rules}
use Rattle.monitor_climb_bytes.proofs.past_bytes.Goals as goal

pub overflow_add-at : goal.overflow_add-at
overflow_add-at c = let p = c.requires in omega (arith, p.0, p.1)

pub loop-at-init : goal.loop-at-init
loop-at-init c = let p = c.requires in (omega arith, omega (arith, p.0), λ x i j. absurd (omega arith))

pub overflow_add-at-in-loop-at : goal.overflow_add-at-in-loop-at
overflow_add-at-in-loop-at c = omega (arith, c.loop-at.invariant.1, c.requires.1)

pub zero_32-requires : goal.zero_32-requires
zero_32-requires c = omega (arith, c.loop-at-test.true)

pub overflow_add-at-in-loop-at-2 : goal.overflow_add-at-in-loop-at-2
overflow_add-at-in-loop-at-2 c = omega (arith, c.loop-at-test.true, c.requires.1)

pub zero_32-requires-in-loop-at : goal.zero_32-requires-in-loop-at
zero_32-requires-in-loop-at c = omega (arith, c.loop-at-test.true)

pub overflow_add-at-then-zero_32 : goal.overflow_add-at-then-zero_32
overflow_add-at-then-zero_32 c = omega (arith, c.loop-at-test.true, c.requires.1)

pub loop-at-smaller : goal.loop-at-smaller
loop-at-smaller c = omega (arith, c.loop-at-test.true)

pub loop-at-preserved : goal.loop-at-preserved
loop-at-preserved c =
    let i = c.loop-at.invariant in
    let p = c.loop-at.at in
    let f = bytes.at c.args.primary.now in
    let t = and-true c.zero_32.result c.zero_32-in-loop-at.result c.if-zero_32.true in
    let half = zero-run f _ p 32 i.2 (sym c.zero_32.ensures ∙ t.0) in (
      omega (arith, i.0),
      omega (arith, c.loop-at-test.true),
      λ x y z. zero-run f _ (p + 32) 32 half (sym c.zero_32-in-loop-at.ensures ∙ t.1) x y (omega arith),
    )

pub loop-at-2-init : goal.loop-at-2-init
loop-at-2-init c = (omega arith, c.loop-at.invariant.1, λ lo free. free)

pub overflow_add-at-in-loop-at-2-2 : goal.overflow_add-at-in-loop-at-2-2
overflow_add-at-in-loop-at-2-2 c = omega (arith, c.loop-at-2.invariant.1, c.requires.1)

pub eight_at-eight-requires : goal.eight_at-eight-requires
eight_at-eight-requires c = c.loop-at-2-test.true

pub overflow_add-result : goal.overflow_add-result
overflow_add-result c =
    omega (arith, c.zero_bytes.ensures.1, c.loop-at-2-test.true, c.requires.1)

pub returns-then-eight-ne0 : goal.returns-then-eight-ne0
returns-then-eight-ne0 c =
    let i = c.loop-at.invariant in
    let j = c.loop-at-2.invariant in
    let f = bytes.at c.args.primary.now in (
      omega (arith, i.0, j.0),
      omega (arith, c.zero_bytes.ensures.1, c.loop-at-2-test.true),
      zero-low f (λ q. (c.shared_slice_known-1.given q).fits) _ _ _ _ (j.2 _ i.2) c.eight_at-eight.ensures c.zero_bytes.ensures.0,
    )

pub overflow_add-at-in-loop-at-2-3 : goal.overflow_add-at-in-loop-at-2-3
overflow_add-at-in-loop-at-2-3 c = omega (arith, c.loop-at-2-test.true, c.requires.1)

pub loop-at-2-smaller : goal.loop-at-2-smaller
loop-at-2-smaller c = omega (arith, c.loop-at-2-test.true)

pub loop-at-2-preserved : goal.loop-at-2-preserved
loop-at-2-preserved c =
    let j = c.loop-at-2.invariant in
    let f = bytes.at c.args.primary.now in
    (omega (arith, j.0), omega (arith, c.loop-at-2-test.true), λ lo free. zero-eight f lo _ _ (j.2 lo free) c.eight_at-eight.ensures c.if-eight-ne0.false)

pub returns : goal.returns
returns c =
    let i = c.loop-at.invariant in
    let j = c.loop-at-2.invariant in
    (omega (arith, i.0, j.0), j.1, j.2 _ i.2)
