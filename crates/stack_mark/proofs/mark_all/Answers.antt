-- `stack_mark::mark_all` meets its contract: the bytes passed are marked, the others as they were. Assumes nothing.
use Rattle.std.proofs.Common.{◌≡◌, ℕ, length, sym, ap, ◌∙◌, arith}
use Rattle.number.specs.Parts.{at}
use Rattle.number.proofs.PartLaws.{over_none}
use Rattle.stack_layout.specs.Ops.{with_written}
use Rattle.stack_laws.proofs.FillLaws.{fill_step, fill-read}
use Rattle.stack_laws.proofs.MarkLaws.{or-written}
use Rattle.stack_mark.proofs.mark_all.Goals as goal

pub loop-b-init : goal.loop-b-init
loop-b-init c = sym (over_none 0 _ _)

pub loop-b-preserved : goal.loop-b-preserved
loop-b-preserved c =
    let part₀ = c.args.part.now in
    let l = c.loop-b in
    let h = c.loop-b-test.true in
    let f : ℕ → ℕ = λ q. with_written (at part₀ q) in
    fill_step part₀ l.part l.b-index _ f h l.invariant
    (or-written (at l.part l.b-index) ∙ ap with_written (fill-read part₀ l.part l.b-index f h l.invariant))

pub returns : goal.returns
returns c =
    let e : c.loop-b.b-index ≡ length c.args.part.now = omega arith in
    rw e at c.loop-b.invariant
