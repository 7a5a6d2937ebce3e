-- `stack_mark::mark` meets its contract: a lent part comes back marked. Assumes nothing.
use Rattle.std.proofs.Common.{ℕ, length, ap}
use Rattle.number.specs.Parts.{at}
use Rattle.number.proofs.PartLaws.{part_at}
use Rattle.stack_layout.specs.Ops.{with_written}
use Rattle.stack_laws.proofs.FillLaws.{over-lent}
use Rattle.stack_laws.proofs.MarkLaws.{mark-range}
use Rattle.stack_mark.proofs.mark.Goals as goal

pub returns : goal.returns
returns c S =
    let a = c.args in
    let P = a.primary.now in
    let f : ℕ → ℕ = λ q. with_written (at P q) in
    rw (over-lent P c.mark_part.new.part a.p.0 a.n f _ c.requires c.mark_part.ensures (λ i h. ap with_written (part_at P a.p.0 a.n i h)))
    (mark-range (length P) P S a.p.0 a.n c.requires)
