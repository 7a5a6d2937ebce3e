-- What the check of a call that sets a pointer tells. Assumes nothing.
use Rattle.std.specs.Prelude.{◌≡◌, ◌≢◌, ℕ, Result, MatchResult}
use Rattle.map.specs.declared.Map.{Map}
use Rattle.shadows.specs.Shadows.{Shadows}
use Rattle.cells_layout.specs.Cells.{Cells}
use Rattle.monitor_base.specs.Refusals.{code_of}
use Rattle.monitor_base.specs.declared.Refusal.{Refusal}
use Rattle.origins_laws.specs.Pointers.{CellLies}
use Rattle.origins_pointer.specs.declared.Aim.{Aim}

-- the number n of the refusal, or, where n is 0, where the cell lies, and the origin
abbrev pub AimsAt : Map → Shadows → Cells → (cell number origin : ℕ) → Result Aim Refusal → Type 0
AimsAt m s x c n v r = MatchResult r (λ aim. (n ≡ 0) × CellLies m s x c aim.place × (aim.origin ≡ v)) (λ e. (code_of e ≡ n) × (code_of e ≢ 0))
