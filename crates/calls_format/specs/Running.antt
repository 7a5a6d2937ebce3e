-- How a calls program serves its requests: the map, the state and the answer of each. Assumes nothing.
use Rattle.std.specs.Prelude.{Bool, not, ◌||◌, List, [], ◌∷◌, ℕ, ltb}
use Rattle.map.specs.declared.Map.{Map}
use Rattle.map.specs.FormMap.{player}
use Rattle.map.specs.Map.{good_map}
use Rattle.plain.specs.Call.{Answer, Refusal, done, first_of, unless}
use Rattle.shadows.specs.Shadows.{zero_shadows, Shadows}
use Rattle.monitor_base.specs.Calls as monitor
use Rattle.calls_format.specs.Records.{Asked, Request, new_map, call}

-- ---- a new map

-- above what the program has shadows for
abbrev pub above_sizes : Map → Bool
above_sizes m = ltb 32768 m.heap_size || ltb 16384 m.stack_size

-- 1 where a map breaks a rule, 10 where it is good and above the program's sizes
abbrev pub map_refusals : Map → List Refusal
map_refusals m = (1, not (good_map (player m))) ∷ (10, above_sizes m) ∷ []

-- the number that a new map is answered with, 0 where it is accepted
abbrev pub map_number : Map → ℕ
map_number m = first_of (map_refusals m)

-- ---- a request of any form

-- before any map the map is all zeros
abbrev pub zero_map : Map
zero_map = record { heap_start = 0; heap_size = 0; stack_start = 0; stack_size = 0 }

-- a call changes no map
abbrev pub under_map : {X : Type 0} → Map → X × Answer → (Map × X) × Answer
under_map m r = ((m, r.0), r.1)

-- by what an accepted map leaves of a state, and what a call does under a map: a refused map keeps the old one and the state
unfoldable pub serve_by : {C X : Type 0} (cleared : Map → X → X) (call_on : Map → C → X → X × Answer) → Asked C → Map × X → (Map × X) × Answer
serve_by cleared call_on (new_map m) s = unless (map_number m) s ((m, cleared m s.1), done)
serve_by cleared call_on (call c) s = under_map s.0 (call_on s.0 c s.1)

-- ---- the run on shadows

-- the map, and shadows as long as its areas
abbrev pub State : Type 0
State = Map × Shadows

abbrev pub first_state : State
first_state = (zero_map, ([], ([], [])))

-- an accepted map clears
unfoldable pub serve : Request → State → State × Answer
serve r s = serve_by (λ m x. zero_shadows (player m)) (λ m. monitor.call (player m)) r s
