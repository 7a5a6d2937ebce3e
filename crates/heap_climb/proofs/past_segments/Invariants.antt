-- `heap_climb::past_segments` meets its contract: the segments passed by now are free. Assumes nothing.
use Rattle.std.proofs.Common.{ℕ, List, length, ◌-◌, ◌≡◌, ◌%◌}
use Rattle.number.specs.Parts as bytes
use Rattle.map.specs.declared.Form.{Form}
use Rattle.map.specs.FormMap.{number_size, segment_size}
use Rattle.heap_laws.specs.Climb.{FreeSegments}
use Rattle.heap_climb.proofs.past_segments.Given as goal

-- both loops stand at a segment, and those between the position's and it are free
abbrev pub Passed : Form → List ℕ → (p at : ℕ) → Type 0
Passed form heap p at =
    record { whole : at % segment_size form ≡ 0; passed : FreeSegments (number_size form) (segment_size form) (length heap) (bytes.at heap) p at }

abbrev pub invariant-loop-at : goal.invariant-loop-at
invariant-loop-at l = Passed l.form l.heap l.fn.p.0 l.at

abbrev pub decreases-loop-at : goal.decreases-loop-at
decreases-loop-at l = length l.heap - l.at

abbrev pub invariant-loop-at-2 : goal.invariant-loop-at-2
invariant-loop-at-2 l = Passed l.form l.heap l.fn.p.0 l.at

abbrev pub decreases-loop-at-2 : goal.decreases-loop-at-2
decreases-loop-at-2 l = length l.heap - l.at
