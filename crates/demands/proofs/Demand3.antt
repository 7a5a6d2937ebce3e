-- Demand 3, proved: see specs/Demand3.antt for what each says. Assumes nothing.
use mathlib.Core.Path.{◌≡◌, sym, ap, ◌∙◌}
use mathlib.Core.Logic.{◌≢◌}
use mathlib.Core.List.{List, [], ◌∷◌}
use Rattle.map.specs.FormMap.{FormMap}
use Rattle.plain.specs.Rules.{Placed}
use Rattle.plain.specs.Areas.{map_rules}
use Rattle.plain.specs.Call.{clear, Answer, number, done}
use Rattle.plain.specs.ShadowCalls.{shadow_step}
use Rattle.plain.specs.Run.{run}
use Rattle.plain.specs.PlainList.{plain_step}
use Rattle.plain.proofs.SameLaws.{step_same}
use Rattle.plain.proofs.RunLaws.{keep, never-8, run-same, run-each}
use Rattle.shadows.specs.Shadows.{Shadows, shadow_ops, zero_shadows, image}
use Rattle.shadows.proofs.ShadowLaws.{image_fits, map-sound, shadow-images}
use Rattle.monitor_base.specs.Calls.{call}
use Rattle.monitor_base.proofs.CallLaws.{call_step}
use Rattle.demands.specs.Demand3.{shadow_run, WholeRun, NoDamage, ClearedRun, OnEveryImage, StaysPlaced}

pub on_every_image : (m : FormMap) → OnEveryImage m
on_every_image m ok bs P c =
    call_step m c (image m bs) ok (image_fits m bs) ∙ step_same (map_rules m) (map-sound m ok) (shadow_ops m) (image m) (shadow-images m ok) bs P c

pub whole_run : (m : FormMap) → WholeRun m
whole_run m ok cs =
    ap (λ (s : Shadows). shadow_run m s cs) (sym (shadow-images m ok).image_nil)
    ∙ run-same (image m) (Placed (map_rules m) 0) (call m) (plain_step (map_rules m)) (λ c bs P. on_every_image m ok bs P c)
    (keep (map_rules m) (map-sound m ok)) cs [] tt

pub no_damage : (m : FormMap) → NoDamage m
no_damage m ok cs = rw (whole_run m ok cs) (run-each (image m) (plain_step (map_rules m)) (λ a. number a ≢ 8) (never-8 (map_rules m)) cs [])

pub cleared_run : (m : FormMap) → ClearedRun m
unfolding run shadow_step plain_step
cleared_run m ok s fit = (zeros, λ cs. rw (zeros, (shadow-images m ok).image_nil) (ap (λ (r : List (Answer × Shadows)). (done, zero_shadows m) ∷ r) (whole_run m ok cs)))
  where
    zeros : call m clear s ≡ (zero_shadows m, done)
    zeros = call_step m clear s ok fit

pub stays_placed : (m : FormMap) → StaysPlaced m
stays_placed m ok bs P c = keep (map_rules m) (map-sound m ok) c bs P
