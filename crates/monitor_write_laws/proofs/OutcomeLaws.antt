-- What a call that answers its number alone comes to. Assumes nothing.
use mathlib.Core.Path.{◌≡◌, sym, ◌∙◌}
use mathlib.Core.Bool.{true}
use mathlib.Core.Logic.{◌≢◌}
use Prim.Native.Nat.{ℕ}
use Rattle.map.specs.FormMap.{FormMap}
use Rattle.map.specs.Map.{good_map}
use Rattle.plain.specs.Areas.{map_rules}
use Rattle.plain.specs.Call.{Call, refusal}
use Rattle.plain.specs.Call as plain
use Rattle.plain.specs.ShadowCalls.{shadow_step}
use Rattle.shadows.specs.Shadows.{Shadows, lengths_fit, shadow_ops}
use Rattle.monitor_base.specs.Calls.{call}
use Rattle.monitor_base.proofs.CallLaws.{early, call-early, early-good, call_step}

module _ (m : FormMap) (c : Call) (s : Shadows) (k : ℕ) (e : k ≡ early m s) (x : plain.Answer) where
  -- 1 or 2
  pub refused : k ≢ 0 → x ≡ refusal k → (s, x) ≡ call m c s
  refused n h = rw (h, call-early m c s k e n)

  -- neither
  pub stepped : k ≡ 0 → (t : Shadows) (a : plain.Answer) → x ≡ a
      → (good_map m ≡ true → lengths_fit m s ≡ true → shadow_step (map_rules m) (shadow_ops m) c s ≡ (t, a)) → (t, x) ≡ call m c s
  stepped z t a h q = let g = early-good m s (sym z ∙ e) in rw (h, call_step m c s g.0 g.1, q g.0 g.1)
