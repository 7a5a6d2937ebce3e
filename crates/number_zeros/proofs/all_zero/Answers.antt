-- `number_zeros::all_zero` meets its contract. Assumes nothing.
use Rattle.std.proofs.Common.{◌≡◌, ◌&&◌, suc, length, eqb, refl, arith, add-one, zero-add}
use Rattle.number.specs.Parts.{at, zeros}
use Rattle.number.proofs.BitLaws.{or-none}
use Rattle.number.proofs.PartLaws.{zeros-more}
use Rattle.number_zeros.proofs.all_zero.Goals as goal

pub loop-x-init : goal.loop-x-init
unfolding zeros
loop-x-init c = refl

pub loop-x-preserved : goal.loop-x-preserved
loop-x-preserved c =
    let s = c.args.s.now in
    let i = c.loop-x.x-index in
    let e : zeros (at s) 0 (suc i) ≡ (zeros (at s) 0 i && eqb (at s i) 0) = rw zero-add at (zeros-more (at s) 0 i) in
    rw (add-one, e, or-none, c.loop-x.invariant)

pub returns : goal.returns
returns c =
    let e : c.loop-x.x-index ≡ length c.args.s.now = omega arith in
    rw e at c.loop-x.invariant
