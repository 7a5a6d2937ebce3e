-- The answer of place, by the number of gaps that are looked at and the one that is chosen, by positions. Assumes nothing.
use Rattle.std.proofs.Math.Option.{Option, none, some}
use Rattle.std.specs.Prelude.{ℕ, ◌+◌, ◌-◌}
use Rattle.plain.specs.Areas.{place_length}
use Rattle.plain.specs.Gaps.{Gap}
use Rattle.plain.specs.Call.{Answer, answer, refusal}

-- the heap begins at `start`, with segments of G
abbrev pub room_answer : (G start l looked : ℕ) → Option Gap → Answer
room_answer G start l n none = refusal 14
room_answer G start l n (some g) = answer 0 (start + (g.start + G)) n (g.bytes - place_length G l) 0
