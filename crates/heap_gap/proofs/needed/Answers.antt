-- `heap_gap::needed` meets its contract. Assumes nothing.
use Rattle.plain.specs.Areas.{segments, place_length}
use Rattle.heap_gap.proofs.needed.Goals as goal

pub returns : goal.returns
unfolding place_length segments
returns c = rw (c.start.ensures, c.segment-step.ensures)
