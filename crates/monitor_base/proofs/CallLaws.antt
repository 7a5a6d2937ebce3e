-- What a call is, once map and lengths are checked. Assumes nothing.
use mathlib.Core.Path.{◌≡◌}
use mathlib.Core.Bool.{true, cond}
use mathlib.Core.Logic.{◌≢◌}
use Prim.Native.Nat.{ℕ}
use native.Mathlib.Omega.{arith}
use Rattle.number.proofs.TestLaws.{Test, is_true, is_false, test}
use Rattle.map.specs.FormMap.{FormMap}
use Rattle.map.specs.Map.{good_map}
use Rattle.plain.specs.Areas.{map_rules}
use Rattle.plain.specs.Call.{Call, refusal}
use Rattle.plain.specs.ShadowCalls.{shadow_step}
use Rattle.shadows.specs.Shadows.{Shadows, lengths_fit, shadow_ops}
use Rattle.monitor_base.specs.Calls.{call}

-- 1 and 2, as the code tells them
abbrev pub early : FormMap → Shadows → ℕ
early m s = cond (good_map m) (cond (lengths_fit m s) 0 2) 1

pub call_step : (m : FormMap) (c : Call) (s : Shadows) → good_map m ≡ true → lengths_fit m s ≡ true → call m c s ≡ shadow_step (map_rules m) (shadow_ops m) c s
unfolding call shadow_step
call_step m c s g l = rw (g, l)

-- a call that 1 or 2 refuses
pub call-early : (m : FormMap) (c : Call) (s : Shadows) (k : ℕ) → k ≡ early m s → k ≢ 0 → call m c s ≡ (s, refusal k)
unfolding call
call-early m c s k e n = go (test (good_map m)) (test (lengths_fit m s))
  where
    go : Test (good_map m) → Test (lengths_fit m s) → call m c s ≡ (s, refusal k)
    go (is_false g) l = let z : k ≡ 1 = rw g at e in rw (g, z)
    go (is_true g) (is_false l) = let z : k ≡ 2 = rw (g, l) at e in rw (g, l, z)
    go (is_true g) (is_true l) = absurd (n (rw (g, l) at e))

pub early-good : (m : FormMap) (s : Shadows) → 0 ≡ early m s → (good_map m ≡ true) × (lengths_fit m s ≡ true)
early-good m s e = go (test (good_map m)) (test (lengths_fit m s))
  where
    go : Test (good_map m) → Test (lengths_fit m s) → (good_map m ≡ true) × (lengths_fit m s ≡ true)
    go (is_false g) l = absurd (omega (arith, rw g at e))
    go (is_true g) (is_false l) = absurd (omega (arith, rw (g, l) at e))
    go (is_true g) (is_true l) = (g, l)
