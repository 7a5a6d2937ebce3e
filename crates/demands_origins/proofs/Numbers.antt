-- The number of a call of the form with origins, by the conditions that define it (`refusals`). Assumes nothing.
use mathlib.Core.Path.{◌≡◌, refl}
use Rattle.map.specs.declared.Map.{Map}
use Rattle.map.specs.FormMap.{player}
use Rattle.plain.specs.Areas.{map_rules}
use Rattle.plain.specs.Call.{number, first_of}
use Rattle.plain.proofs.AnswerLaws.{accepted-0}
use Rattle.plain.proofs.RunLaws.{unless-number}
use Rattle.shadows.specs.Shadows.{shadow_ops}
use Rattle.origins_list.specs.Call.{Call, plain, point, copy, live}
use Rattle.origins_list.specs.StateCalls.{state_answer}
use Rattle.cells_layout.specs.Cells.{cell_ops}
use Rattle.origins_base.specs.Calls.{State, refusals, call}
use Rattle.demands_origins.specs.Demand1.{number_of}

-- what a call answers where it is not refused has number 0
pub answered-0 : (m : Map) (c : Call) (x : State) → number (state_answer (map_rules (player m)) (shadow_ops (player m)) (cell_ops m) c x) ≡ 0
answered-0 m (plain c) x = accepted-0 (map_rules (player m)) (shadow_ops (player m)) c x.shadows
answered-0 m (point c a) x = refl
answered-0 m (copy t f) x = refl
answered-0 m (live c a) x = refl

pub number-first : (m : Map) (c : Call) (x : State) → number_of m c x ≡ first_of (refusals m c x)
unfolding call
number-first m c x = unless-number (first_of (refusals m c x)) x _ (answered-0 m c x)
