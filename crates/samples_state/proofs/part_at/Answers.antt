-- `samples_state::part_at` meets its contract. Assumes nothing.
use Rattle.samples_state.proofs.StateLaws.{part-bytes, part-figures}
use Rattle.samples_state.proofs.part_at.Goals as goal

pub returns-in-Some : goal.returns-in-Some
returns-in-Some c = (part-bytes _ _ _ _ _ _ c.store_any-stored.ensures _ c.in-Some.is, c.requires)

pub returns : goal.returns
returns c =
    (part-figures _ _ _ _ _ _ c.store_any-stored.ensures c.in_default.is _ c.figures_at.ensures.0, c.figures_at.ensures.1)
