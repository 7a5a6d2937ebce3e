-- What a call comes to, by its number. Assumes nothing.
use mathlib.Core.Path.{◌≡◌, refl, sym, ap, ◌∙◌}
use mathlib.Core.Bool.{Bool, true, false, cond, not}
use mathlib.Core.Logic.{◌≢◌}
use Prim.Native.Nat.{ℕ, zero, suc}
use native.Mathlib.Omega.{arith}
use Rattle.map.specs.FormMap.{FormMap}
use Rattle.map.specs.Map.{good_map}
use Rattle.plain.specs.Areas.{map_rules}
use Rattle.plain.specs.Call.{Call, Answer, number, refusal, done, first_of, unless}
use Rattle.plain.specs.ShadowCalls.{shadows_after, shadow_answer, shadow_step}
use Rattle.plain.proofs.RunLaws.{unless-number}
use Rattle.shadows.specs.Shadows.{Shadows, lengths_fit, shadow_ops}
use Rattle.monitor_base.specs.Calls.{refusals, call}
use Rattle.monitor_base.proofs.CallLaws.{early, call-early, call_step}
use Rattle.monitor_write_laws.specs.Checks.{number_of}

abbrev pub told : {S : Type 0} → S × Answer → ℕ
told r = number r.1

-- ---- the number, once it is known what the call comes to

module _ (m : FormMap) (c : Call) (s : Shadows) where
  -- 1 or 2
  pub number-early : (k : ℕ) → k ≡ early m s → k ≢ 0 → k ≡ number_of m c s
  number-early k e n = sym (ap told (call-early m c s k e n))

  -- neither
  pub number_step : good_map m ≡ true → lengths_fit m s ≡ true → (k : ℕ) → told (shadow_step (map_rules m) (shadow_ops m) c s) ≡ k → k ≡ number_of m c s
  number_step g l k e = sym (ap told (call_step m c s g l) ∙ e)

-- ---- what the call comes to, once its number is known

-- a call that answers its number alone
module _ (m : FormMap) (c : Call) (s : Shadows) (plain : shadow_answer (map_rules m) (shadow_ops m) c s ≡ done) where
  abbrev after : Shadows
  after = shadows_after (map_rules m) (shadow_ops m) c s

  is-first : call m c s ≡ unless (first_of (refusals m c s)) s (after, done)
  unfolding call
  is-first = rw plain

  pub call-first : number_of m c s ≡ first_of (refusals m c s)
  call-first = ap told is-first ∙ unless-number (first_of (refusals m c s)) s (after, done) refl

  pub call-refused : (k : ℕ) → k ≡ number_of m c s → k ≢ 0 → call m c s ≡ (s, refusal k)
  call-refused k e n = is-first ∙ go (first_of (refusals m c s)) (e ∙ call-first)
    where
      go : (j : ℕ) → k ≡ j → unless j s (after, done) ≡ (s, refusal k)
      go zero q = absurd (n q)
      go (suc j) q = rw q

  module _ (z : number_of m c s ≡ 0) where
    first-0 : first_of (refusals m c s) ≡ 0
    first-0 = sym call-first ∙ z

    pub number-good : (good_map m ≡ true) × (lengths_fit m s ≡ true)
    number-good = go (good_map m) (lengths_fit m s) _ first-0
      where
        go : (g l : Bool) (k : ℕ) → ◌≡◌ {A = ℕ} (cond (not g) 1 (cond (not l) 2 k)) 0 → (g ≡ true) × (l ≡ true)
        go true true k e = (refl, refl)
        go true false k e = absurd (omega arith)
        go false l k e = absurd (omega arith)

    pub call-accepted : call m c s ≡ (after, done)
    call-accepted = is-first ∙ ap (λ (j : ℕ). unless j s (after, done)) first-0
