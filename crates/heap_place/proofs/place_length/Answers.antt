-- `heap_place::place_length` meets its contract. Assumes nothing.
use Rattle.plain.specs.Areas.{segments, place_length}
use Rattle.heap_place.proofs.place_length.Goals as goal

pub returns : goal.returns
unfolding place_length segments
returns c = rw c.segment-segment.ensures
