-- `calls_all::all` meets its contract. Assumes nothing.
use mathlib.Core.Path.{◌≡◌, ap, ◌∙◌}
use mathlib.Core.Logic.{inl, inr}
use Prim.Native.Nat.{◌-◌, ◌≤◌}
use native.Mathlib.Omega.{arith}
use lib.ListN.{length}
use borrow.Author.Rules.{rules}
use borrow.Author.Tests.{not-true, not-false}
use Rattle.map.specs.declared.Map.{Map}
use Rattle.calls_format.specs.Kept.{kept}
use Rattle.calls_file.specs.Turn.{Goes}
use Rattle.calls_file.specs.Ran.{Ran}
use Rattle.calls_file.proofs.RanLaws.{begun-goes, ran-none, ran-more}
use Rattle.calls_turn.specs.Point.{point_of}
use Rattle.calls_all.proofs.all.Goals as goal
use Rattle.calls_all.proofs.all.Goals.{else-loop-test, then-loop-test+then-not-run}

pub loop-init : goal.loop-init
loop-init c =
    let b = c.begun-run.ensures in
    let a = c.args in
    (omega arith, begun-goes _ b, ran-none _ b (ap (λ (m : Map). kept m a.heap.now a.primary.now a.secondary.now) b.0), c.requires)

pub loop-preserved : goal.loop-preserved
loop-preserved c =
    let l = c.loop in
    let i = c.if-not-run.false in
    let k = c.turn-run.ensures.refilled.kept ∙ l.invariant.3 in
    (search rules, c.turn-run.ensures.goes, ran-more _ _ _ l.invariant.2 (not-false l.run.on i) c.turn-run.ensures k, k)

pub returns : goal.returns
returns c =
    let l = c.loop in
    record {
      turns = l.counter;
      ran = l.invariant.2;
      ended = elim c.loop-test.branch [
        | else-loop-test w ↦ inr (let u = l.invariant.0 in let v = w.loop-test.false in omega arith)
        | then-loop-test+then-not-run w ↦ inl (not-true l.run.on w.if-not-run.true)
      ];
    }
