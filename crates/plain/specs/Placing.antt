-- Request S-6: the answer of place, by the gaps of a heap of segments of G bytes. Assumes nothing.
use Rattle.std.specs.Prelude.{Bool, true, false, List, ℕ, ◌+◌, ◌-◌, length, take}
use Rattle.std.proofs.Math.Option.{Option, none, some}
use Rattle.plain.specs.Areas.{place_length}
use Rattle.plain.specs.Gaps.{Gap, best}
use Rattle.plain.specs.Call.{Answer, answer, done}

-- "that many gaps or at all, whichever is fewer", in address order
abbrev pub looked_at : (budget : ℕ) → List Gap → List Gap
looked_at k gaps = take k gaps

-- the smallest that holds header and block, the lowest among equals
abbrev pub chosen : (G l : ℕ) → (looked : List Gap) → Option Gap
chosen G l gs = best (place_length G l) gs

-- no gap looked at fits
abbrev pub no_gap : Option Gap → Bool
no_gap none = true
no_gap (some g) = false

-- base, gaps looked at, surplus. Where no gap fits the call is refused, and this is not asked
abbrev pub place_of : (G l count : ℕ) → Option Gap → Answer
place_of G l n none = done
place_of G l n (some g) = answer 0 (g.start + G) n (g.bytes - place_length G l) 0

-- 14's condition, and the answer of an accepted call
abbrev pub none_fits : (G l budget : ℕ) → List Gap → Bool
none_fits G l k gaps = no_gap (chosen G l (looked_at k gaps))

abbrev pub place_answer : (G l budget : ℕ) → List Gap → Answer
place_answer G l k gaps = place_of G l (length (looked_at k gaps)) (chosen G l (looked_at k gaps))
