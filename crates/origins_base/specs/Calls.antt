-- One call of the form with origins, for any map, any arguments, any lengths, any bytes and any counter. Assumes nothing.
use Rattle.std.specs.Prelude.{not, List, ◌∷◌, ℕ}
use Rattle.map.specs.declared.Map.{Map}
use Rattle.map.specs.FormMap.{player}
use Rattle.map.specs.Map.{good_map}
use Rattle.plain.specs.Areas.{map_rules}
use Rattle.plain.specs.Call.{Answer, Refusal, first_of, unless}
use Rattle.shadows.specs.Shadows.{Shadows, lengths_fit, zero_shadows, shadow_ops, image}
use Rattle.origins_list.specs.Call.{Call}
use Rattle.origins_list.specs.StateCalls as form
use Rattle.origins_list.specs.StateCalls.{by_state, state_after, state_answer}
use Rattle.origins_list.specs.OriginList.{OriginList}
use Rattle.cells_layout.specs.Cells.{Cells, cells_fit, no_cells, cell_ops, cell_image}

-- the three block shadows, the cells of both areas, the counter
abbrev pub State : Type 0
State = form.State Shadows Cells

-- all refusals of a call, in the order in which they are tried: "2 covers the cells' lengths too"
abbrev pub refusals : Map → Call → State → List Refusal
refusals m c x =
    (1, not (good_map (player m))) ∷ (2, not (lengths_fit (player m) x.shadows)) ∷ (2, not (cells_fit m x.cells))
    ∷ by_state (map_rules (player m)) (shadow_ops (player m)) (cell_ops m) c x

unfoldable pub call : Map → Call → State → State × Answer
call m c x =
    unless (first_of (refusals m c x)) x
    (state_after (map_rules (player m)) (shadow_ops (player m)) (cell_ops m) c x, state_answer (map_rules (player m)) (shadow_ops (player m)) (cell_ops m) c x)

-- cleared shadows, and cells that "begin as zeros"; the counter stands at k
abbrev pub first_state_at : Map → (k : ℕ) → State
first_state_at m k = record { shadows = zero_shadows (player m); cells = no_cells m; counter = k }

-- "A 64-bit counter, 1 at first"
abbrev pub first_state : Map → State
first_state m = first_state_at m 1

-- what stands for a plain list of this form: the image of its blocks, which is the plain form's, the image of the cells, and the counter
abbrev pub image_of : Map → OriginList → State
image_of m x = record { shadows = image (player m) x.blocks; cells = cell_image m x.origin x.referent; counter = x.counter }
