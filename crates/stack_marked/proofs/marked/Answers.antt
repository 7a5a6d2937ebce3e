-- `stack_marked::marked` meets its contract: the lent part's bits are those of the range. Assumes nothing.
use mathlib.Core.Path.{◌≡◌, ◌∙◌}
use mathlib.Core.List.{[]}
use Prim.Native.Nat.{◌+◌, ◌-◌}
use native.Mathlib.Nat.{zero-add}
use lib.ListN.{length, take, drop}
use Rattle.number.proofs.PartLaws.{part_length, part_at}
use Rattle.stack_laws.proofs.MarkLaws.{marked-same}
use Rattle.stack_marked.proofs.marked.Goals as goal

pub returns : goal.returns
returns c S =
    let P = c.args.primary.now in
    let part = take ((c.args.p.0 + c.args.n) - c.args.p.0) (drop c.args.p.0 P) in
    let l : length part ≡ c.args.n = part_length P c.args.p.0 c.args.n c.requires in
    c.part_marked.ensures
    ∙ rw l (marked-same c.args.n (length P) part P [] S 0 c.args.p.0 c.args.n (λ i h. rw zero-add (part_at P c.args.p.0 c.args.n i h)))
