-- One call of the monitor, for any map, any arguments, any lengths and any bytes. Assumes nothing.
use Rattle.std.specs.Prelude.{not, List, ◌∷◌, ◌++◌}
use Rattle.map.specs.FormMap.{FormMap}
use Rattle.map.specs.Map.{good_map}
use Rattle.plain.specs.Areas.{map_rules}
use Rattle.plain.specs.Call.{Call, Answer, Refusal, first_of, unless, by_rules}
use Rattle.plain.specs.ShadowCalls.{by_shadows, shadows_after, shadow_answer}
use Rattle.shadows.specs.Shadows.{Shadows, lengths_fit, shadow_ops}

-- all refusals of a call, in the order in which they are tried
abbrev pub refusals : FormMap → Call → Shadows → List Refusal
refusals m c s =
    (1, not (good_map m)) ∷ (2, not (lengths_fit m s)) ∷ (by_rules (map_rules m) c ++ by_shadows (map_rules m) (shadow_ops m) c s)

unfoldable pub call : FormMap → Call → Shadows → Shadows × Answer
call m c s =
    unless (first_of (refusals m c s)) s (shadows_after (map_rules m) (shadow_ops m) c s, shadow_answer (map_rules m) (shadow_ops m) c s)
