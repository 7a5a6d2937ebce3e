-- Place under a map, by the gaps of its heap shadow. Assumes nothing.
use mathlib.Core.Path.{◌≡◌, refl, ◌∙◌}
use mathlib.Core.Bool.{true, cond}
use mathlib.Core.Logic.{◌≢◌}
use mathlib.Core.List.{List}
use mathlib.Core.Option.{Option, none, some}
use Prim.Native.Nat.{ℕ}
use native.Mathlib.Nat.{add_assoc}
use lib.ListN.{length, take}
use borrow.Author.Tests.{eq-eqb, ne_eqb}
use Rattle.map.specs.FormMap.{FormMap}
use Rattle.map.specs.Map.{good_map}
use Rattle.plain.specs.Areas.{place_length, map_rules}
use Rattle.plain.specs.Gaps.{Gap, best}
use Rattle.plain.specs.Call.{place, unless, refusal}
use Rattle.plain.specs.Placing.{no_gap, place_of}
use Rattle.plain.specs.ShadowCalls.{shadow_step}
use Rattle.plain.proofs.GapLaws.{gaps_up, take-up, length_up, best-up}
use Rattle.heap_layout.specs.Ops.{heap_gaps}
use Rattle.shadows.specs.Shadows.{Shadows, lengths_fit, shadow_ops}
use Rattle.monitor_read_laws.specs.Roomed.{room_answer}
use Rattle.monitor_base.specs.Calls.{call}
use Rattle.monitor_base.proofs.CallLaws.{call_step}
use Rattle.monitor_base.proofs.LocatingLaws.{heap-lengths}

module _ (m : FormMap) (s : Shadows) (ok : good_map m ≡ true) (fit : lengths_fit m s ≡ true) (l k : ℕ) where
  abbrev gaps : List Gap
  gaps = heap_gaps m.width m.segment (length s.0) s.0

  step-empty : l ≡ 0 → shadow_step (map_rules m) (shadow_ops m) (place l k) s ≡ (s, refusal 3)
  unfolding shadow_step
  step-empty e = rw (eq-eqb l 0 e)

  pub place-empty : l ≡ 0 → call m (place l k) s ≡ (s, refusal 3)
  place-empty e = call_step m (place l k) s ok fit ∙ step-empty e

  step : l ≢ 0 → shadow_step (map_rules m) (shadow_ops m) (place l k) s ≡ (s, room_answer m.segment m.heap_start l (length (take k gaps)) (best (place_length m.segment l) (take k gaps)))
  unfolding shadow_step
  step n =
      let e = (heap-lengths m s ok fit).0 in
      rw (ne_eqb l 0 n, ← e, take-up m.heap_start k gaps, length_up m.heap_start (take k gaps), best-up m.heap_start (place_length m.segment l) (take k gaps))
      (go (length (take k gaps)) (best (place_length m.segment l) (take k gaps)))
    where
      go : (c : ℕ) (o : Option Gap) → unless (cond (no_gap (gaps_up m.heap_start o)) 14 0) s (s, place_of m.segment l c (gaps_up m.heap_start o)) ≡ (s, room_answer m.segment m.heap_start l c o)
      go c none = refl
      go c (some g) = rw (add_assoc m.heap_start g.start m.segment)

  pub places : l ≢ 0 → call m (place l k) s ≡ (s, room_answer m.segment m.heap_start l (length (take k gaps)) (best (place_length m.segment l) (take k gaps)))
  places n = call_step m (place l k) s ok fit ∙ step n
