-- Cleared shadows are all zeros. Assumes nothing.
use mathlib.Core.Path.{◌≡◌, refl, ◌∙◌}
use mathlib.Core.Bool.{true}
use mathlib.Core.List.{List}
use Prim.Native.Nat.{ℕ}
use native.Mathlib.Omega.{arith}
use lib.ListN.{length, replicate}
use Rattle.number.specs.Parts.{over}
use Rattle.number.proofs.PartLaws.{length_over, over-in, is-tab, tab-zero}
use Rattle.map.specs.FormMap.{FormMap}
use Rattle.plain.specs.Areas.{map_rules}
use Rattle.plain.specs.Call.{clear, done}
use Rattle.plain.specs.ShadowCalls.{shadow_step}
use Rattle.shadows.specs.Shadows.{Shadows, lengths_fit, shadow_ops}
use Rattle.shadows.proofs.ShadowLaws.{Fit, fit-true}

pub filled : (h : List ℕ) (n : ℕ) → length h ≡ n → over 0 (length h) (λ q. 0) h ≡ replicate n 0
filled h n e =
    is-tab n (over 0 (length h) (λ q. 0) h) (λ q. 0) (length_over 0 (length h) (λ q. 0) h ∙ e)
    (λ q k. over-in 0 (length h) (λ q. 0) h q (omega arith) (omega arith) (omega arith)) ∙ tab-zero n 0 (λ q. 0) (λ q. refl)

pub clear_step : (m : FormMap) (s t : Shadows) → lengths_fit m s ≡ true → t.0 ≡ over 0 (length s.0) (λ q. 0) s.0
    → t.1.0 ≡ over 0 (length s.1.0) (λ q. 0) s.1.0 → t.1.1 ≡ over 0 (length s.1.1) (λ q. 0) s.1.1
    → shadow_step (map_rules m) (shadow_ops m) clear s ≡ (t, done)
unfolding shadow_step
clear_step m s t f x y z =
    let l : Fit m s = fit-true m s f in
    rw (x, y, z, filled s.0 _ l.0, filled s.1.0 _ l.1.0, filled s.1.1 _ l.1.1)
