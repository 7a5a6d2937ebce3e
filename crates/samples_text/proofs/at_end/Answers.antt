-- `samples_text::at_end` meets its contract. Assumes nothing.
use mathlib.Core.Path.{ap}
use lib.Dec.{leb}
use Rattle.samples_text.proofs.at_end.Goals as goal

pub returns : goal.returns
returns c = ap (leb _) c.skip_spaces.ensures
