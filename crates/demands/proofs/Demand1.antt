-- Demand 1, proved: see specs/Demand1.antt for what it says. Assumes nothing.
use mathlib.Core.Path.{◌≡◌, refl}
use mathlib.Core.Logic.{◌≢◌}
use Prim.Native.Nat.{ℕ, zero, suc}
use Rattle.map.specs.FormMap.{FormMap}
use Rattle.plain.specs.Areas.{map_rules}
use Rattle.plain.specs.Call.{Answer, number, refusal, first_of, unless}
use Rattle.plain.specs.ShadowCalls.{shadows_after, shadow_answer}
use Rattle.plain.proofs.AnswerLaws.{accepted-0}
use Rattle.shadows.specs.Shadows.{Shadows, shadow_ops}
use Rattle.monitor_base.specs.Calls.{refusals, call}
use Rattle.demands.specs.Demand1.{RefusedAltersNothing}

pub refused_alters_nothing : (m : FormMap) → RefusedAltersNothing m
unfolding call
refused_alters_nothing m c s h = go (first_of (refusals m c s)) h
  where
    does : ℕ → Shadows × Answer
    does k = unless k s (shadows_after (map_rules m) (shadow_ops m) c s, shadow_answer (map_rules m) (shadow_ops m) c s)

    go : (k : ℕ) → number (does k).1 ≢ 0 → does k ≡ (s, refusal (number (does k).1))
    go zero h = absurd (h (accepted-0 (map_rules m) (shadow_ops m) c s))
    go (suc k) h = refl
