-- `stack_marked::all_marked` meets its contract: what was seen so far is 1 exactly if the bytes passed are marked. Assumes nothing.
use Rattle.std.proofs.Common.{◌≡◌, ◌+◌, [], length, refl, sym, ◌∙◌, arith, zero-add}
use Rattle.number.specs.Parts.{at}
use Rattle.plain.specs.Ops.{range_marked}
use Rattle.stack_laws.proofs.MarkLaws.{seen_more, marked_more}
use Rattle.stack_marked.proofs.all_marked.Goals as goal

pub loop-b-init : goal.loop-b-init
unfolding range_marked
loop-b-init c = record { bit = omega arith; ones = refl }

pub loop-b-preserved : goal.loop-b-preserved
loop-b-preserved c =
    let part = c.args.part.now in
    let l = c.loop-b in
    let s = seen_more l.seen (at part l.b-index) l.invariant.bit in
    let z : 0 + l.b-index ≡ l.b-index = zero-add l.b-index in
    let m = rw z at (marked_more (length part) part [] 0 l.b-index) in
    record { bit = s.1; ones = s.0 ∙ rw l.invariant.ones (sym m) }

pub returns : goal.returns
returns c =
    let e : c.loop-b.b-index ≡ length c.args.part.now = omega arith in
    c.loop-b.invariant.ones ∙ rw e
