-- `stack_climb::climb_part` meets its contract. Assumes nothing.
use native.Mathlib.Nat.{add-sub_cancel_left}
use Rattle.stack_laws.proofs.FillLaws.{over-lent}
use Rattle.stack_climb.proofs.climb_part.Goals as goal

pub returns : goal.returns
returns c =
    over-lent c.args.primary.now c.climb.new.part c.args.p.0 c.args.n _ _ c.requires.0 c.climb.ensures (λ i h. rw (add-sub_cancel_left c.args.p.0 i))
