-- `samples_text::at_gap` meets its contract. Assumes nothing.
use mathlib.Core.Path.{ap, ◌∙◌}
use Rattle.samples_text.specs.Text.{ends_by}
use Rattle.samples_text.proofs.at_gap.Goals as goal

pub returns : goal.returns
returns c = c.ends_by.ensures ∙ ap (ends_by _ _) c.skip_spaces.ensures
