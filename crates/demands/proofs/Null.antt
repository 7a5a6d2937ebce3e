-- Free of address 0, proved: see specs/Null.antt for what each says. Assumes nothing.
use mathlib.Core.Path.{◌≡◌, refl, sym, ap, ◌∙◌}
use mathlib.Core.Bool.{not}
use Prim.Native.Nat.{ℕ, zero, suc}
use Rattle.map.specs.FormMap.{FormMap}
use Rattle.plain.specs.Call.{free, refusal, done, first_of, unless}
use Rattle.plain.specs.PlainList.{plain_step}
use Rattle.shadows.specs.Shadows.{Shadows}
use Rattle.monitor_base.specs.Calls.{refusals, call}
use Rattle.monitor_base.proofs.LocatingLaws.{null-inside}
use Rattle.demands.proofs.Numbers.{outside-words}
use Rattle.demands.specs.Null.{NullOutside, FreeOfNull}

pub null_outside : (m : FormMap) → NullOutside m
null_outside m ok = sym (outside-words m 0) ∙ ap not (null-inside m ok)

pub free_of_null : (m : FormMap) → FreeOfNull m
unfolding call plain_step
free_of_null m = (λ s. go s (first_of (refusals m (free 0) s)), λ bs. refl)
  where
    go : (s : Shadows) (k : ℕ) → unless k s (s, done) ≡ (s, refusal k)
    go s zero = refl
    go s (suc k) = refl
