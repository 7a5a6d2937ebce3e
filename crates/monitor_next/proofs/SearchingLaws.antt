-- The call by what its search comes to. Assumes nothing.
use mathlib.Core.Path.{◌≡◌, refl, ◌∙◌}
use mathlib.Core.Bool.{true, not}
use mathlib.Core.List.{[], ◌∷◌}
use Prim.Native.Nat.{ℕ}
use Rattle.std.specs.Prelude.{Result}
use Rattle.map.specs.FormMap.{FormMap}
use Rattle.map.specs.Map.{good_map}
use Rattle.plain.specs.Areas.{map_rules}
use Rattle.plain.specs.Call.{next, unless, first_of}
use Rattle.plain.specs.Reading.{Reading, nothing, block, damaged}
use Rattle.plain.specs.ShadowCalls.{is_damaged, is_block, next_answer, search, shadow_step}
use Rattle.shadows.specs.Shadows.{Shadows, lengths_fit, shadow_ops}
use Rattle.monitor_base.specs.Calls.{call}
use Rattle.monitor_base.proofs.CallLaws.{call_step}
use Rattle.monitor_next.specs.Searched.{search_of, search_answer}
use Rattle.monitor_base.specs.declared.Refusal.{Refusal}
use Rattle.monitor_next.specs.declared.Found.{Found}

module _ (m : FormMap) (s : Shadows) (ok : good_map m ≡ true) (fit : lengths_fit m s ≡ true) where
  by : (r : Reading)
      → unless (first_of ((8, is_damaged r) ∷ (7, not (is_block r)) ∷ [])) s (s, next_answer r) ≡ (s, search_answer (search_of r))
  by nothing = refl
  by (block b l o w t) = refl
  by damaged = refl

  pub next-search : (a : ℕ) (r : Result Found Refusal) → r ≡ search_of (search (map_rules m) (shadow_ops m) s a)
      → call m (next a) s ≡ (s, search_answer r)
  unfolding shadow_step
  next-search a r e = call_step m (next a) s ok fit ∙ rw e (by (search (map_rules m) (shadow_ops m) s a))
