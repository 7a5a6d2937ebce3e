-- `number_zeros::zero_at` meets its contract. Assumes nothing.
use Rattle.std.proofs.Common.{◌≡◌, ◌+◌, ◌-◌, ◌∙◌, ap, length, take, drop, zero-add}
use Rattle.number.specs.Parts.{at, zeros}
use Rattle.number.proofs.PartLaws.{part_length, part_at, zeros-same}
use Rattle.number_zeros.proofs.zero_at.Goals as goal

pub returns : goal.returns
returns c =
    let a = c.args in
    let part = take (a.a + a.n - a.a) (drop a.a a.s.now) in
    let l : length part ≡ a.n = part_length a.s.now a.a a.n c.requires in
    c.all_zero.ensures ∙ ap (zeros (at part) 0) l
    ∙ zeros-same (at part) (at a.s.now) 0 a.a a.n (λ i h. rw zero-add (part_at a.s.now a.a a.n i h))
