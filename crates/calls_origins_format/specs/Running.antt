-- How this program serves its requests, on block shadows, cells and counter. Assumes nothing.
use Rattle.std.specs.Prelude.{[]}
use Rattle.map.specs.declared.Map.{Map}
use Rattle.map.specs.FormMap.{player}
use Rattle.plain.specs.Call.{Answer}
use Rattle.shadows.specs.Shadows.{zero_shadows}
use Rattle.cells_layout.specs.Cells.{no_cells}
use Rattle.origins_base.specs.Calls as form
use Rattle.calls_format.specs.Running.{zero_map, serve_by}
use Rattle.calls_origins_format.specs.Records.{Request}

-- ---- the run on shadows, cells and counter

abbrev pub State : Type 0
State = Map × form.State

-- before any map the map is all zeros, there is no byte, and the counter is 1
abbrev pub first_state : State
first_state = (zero_map, record { shadows = ([], ([], [])); cells = ([], []); counter = 1 })

-- an accepted map clears shadows and cells, and leaves the counter
abbrev pub cleared : Map → form.State → form.State
cleared m x = record { shadows = zero_shadows (player m); cells = no_cells m; counter = x.counter }

unfoldable pub serve : Request → State → State × Answer
serve r s = serve_by cleared form.call r s
