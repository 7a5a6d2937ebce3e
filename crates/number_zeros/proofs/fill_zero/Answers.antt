-- `number_zeros::fill_zero` meets its contract. Assumes nothing.
use Rattle.std.proofs.Common.{◌≡◌, ◌∙◌, ◌+◌, ◌<◌, ℕ, List, ap, sym, length, arith, add-one, zero-add}
use Rattle.std.proofs.Math.ListN.{set}
use Rattle.number.proofs.PartLaws.{over_none, over-more}
use Rattle.number_zeros.proofs.fill_zero.Goals as goal

pub loop-x-init : goal.loop-x-init
loop-x-init c = sym (over_none 0 (λ q. 0) _)

pub loop-x-preserved : goal.loop-x-preserved
loop-x-preserved c =
    let s = c.args.s.now in
    let i = c.loop-x.x-index in
    let h : 0 + i < length s = omega arith in
    rw add-one (ap (λ (l : List ℕ). set l i 0) c.loop-x.invariant ∙ rw zero-add at (over-more 0 i (λ q. 0) s h))

pub returns : goal.returns
returns c =
    let e : c.loop-x.x-index ≡ length c.args.s.now = omega arith in
    rw e at c.loop-x.invariant
