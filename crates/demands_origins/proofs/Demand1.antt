-- Demand 1 for the form with origins, proved: see specs/Demand1.antt for what it says. Assumes nothing.
use mathlib.Core.Path.{◌≡◌, refl}
use mathlib.Core.Logic.{◌≢◌}
use Prim.Native.Nat.{ℕ, zero, suc}
use Rattle.map.specs.FormMap.{player}
use Rattle.plain.specs.Areas.{map_rules}
use Rattle.plain.specs.Call.{Answer, number, refusal, first_of, unless}
use Rattle.shadows.specs.Shadows.{shadow_ops}
use Rattle.origins_list.specs.StateCalls.{state_after, state_answer}
use Rattle.cells_layout.specs.Cells.{cell_ops}
use Rattle.origins_base.specs.Calls.{State, refusals, call}
use Rattle.demands_origins.specs.Demand1.{RefusedAltersNothing}
use Rattle.demands_origins.proofs.Numbers.{answered-0}

pub refused_alters_nothing : RefusedAltersNothing
unfolding call
refused_alters_nothing m c x h = go (first_of (refusals m c x)) h
  where
    does : ℕ → State × Answer
    does k = unless k x (state_after (map_rules (player m)) (shadow_ops (player m)) (cell_ops m) c x, state_answer (map_rules (player m)) (shadow_ops (player m)) (cell_ops m) c x)

    go : (k : ℕ) → number (does k).1 ≢ 0 → does k ≡ (x, refusal (number (does k).1))
    go zero h = absurd (h (answered-0 m c x))
    go (suc k) h = refl
