-- A request of the plain program is served by its plan. Assumes nothing.
use mathlib.Core.Path.{◌≡◌}
use mathlib.Core.List.{List}
use Prim.Native.Nat.{ℕ, ◌≤◌}
use lib.ListN.{length}
use Rattle.map.specs.declared.Map.{Map}
use Rattle.map.specs.FormMap.{player}
use Rattle.plain.specs.Call.{Call, Answer, clear, refusal}
use Rattle.shadows.specs.Shadows.{Shadows, zero_shadows}
use Rattle.monitor_base.specs.Calls as monitor
use Rattle.calls_format.specs.Records.{Request}
use Rattle.calls_format.specs.Running.{serve}
use Rattle.calls_format.specs.Kept.{parts, kept}
use Rattle.calls_format.proofs.KeptLaws.{parts-cleared}
use Rattle.calls_plan.specs.Plan.{step, refused, planned}
use Rattle.calls_plan.proofs.PlanLaws as any

-- an accepted map leaves zeros
abbrev cleared : Map → Shadows → Shadows
cleared m x = zero_shadows (player m)

-- a call of the player
abbrev called : Map → Call → Shadows → Shadows × Answer
called m = monitor.call (player m)

module _ (m : Map) (h p s : List ℕ) where
  abbrev view : Map → Shadows
  view n = parts n h p s

  pub served-no : (r : Request) (k : ℕ) → refused k ≡ planned clear m r → (kept m h p s, refusal k) ≡ serve r (kept m h p s)
  unfolding serve
  served-no r k e = any.served-no cleared called clear m view r k e

  pub served-step : (r : Request) (m' : Map) (c : Call) (a : Answer) (h' p' s' : List ℕ) → step m' c ≡ planned clear m r
      → 32768 ≤ length h → 16384 ≤ length p → 16384 ≤ length s
      → (parts m' h' p' s', a) ≡ monitor.call (player m') c (parts m' h p s) → (kept m' h' p' s', a) ≡ serve r (kept m h p s)
  unfolding serve
  served-step r m' c a h' p' s' e lh lp ls w =
      any.served-step cleared called clear m view (λ n z. parts-cleared n h p s z lh lp ls) r m' c a (parts m' h' p' s') e w
