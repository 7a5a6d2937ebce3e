-- Demand 3 for the form with origins: for every list of its calls, plain kinds and 11 to 13, from cleared shadows, zero cells and counter 1 under
-- one good map, numbers, fields, every shadow byte, every byte of the cells and the counter after each call are those of the plain list of this
-- form; damage is never reported. "This presumes ... that only these calls write the cells and the counter, and that cells begin as zeros." Proved in
-- proofs/Demand3.antt. The code comes in by its contracts: each function of `origins`, and `step` for any call, gives the answer and leaves the
-- state that `call` says. Assumes nothing.
use Rattle.std.specs.Prelude.{◌≡◌, ◌≢◌, true, false, List, [], ◌∷◌, ℕ, ◌%◌, ◌≤◌}
use Rattle.number.specs.Parts.{Each}
use Rattle.map.specs.declared.Map.{Map}
use Rattle.map.specs.FormMap.{player}
use Rattle.map.specs.Map.{good_map}
use Rattle.plain.specs.Areas.{map_rules}
use Rattle.plain.specs.Call.{clear, Answer, answer, number}
use Rattle.plain.specs.Run.{run}
use Rattle.shadows.specs.Shadows.{lengths_fit}
use Rattle.demands.specs.Addresses.{outside}
use Rattle.origins_list.specs.Call.{Call, plain}
use Rattle.origins_list.specs.OriginList.{OriginList, first_list, first_list_at, origin_step}
use Rattle.origins_list.specs.Carries.{Carries}
use Rattle.cells_layout.specs.Cells.{cells_fit}
use Rattle.origins_base.specs.Calls.{State, call, first_state, first_state_at, image_of}
use Rattle.demands_origins.specs.Alters.{origin_in, referent_in}

-- the answer, and the whole state after each call, each call on what the one before left
abbrev pub state_run : Map → State → List Call → List (Answer × State)
state_run m x cs = run (λ (y : State). y) (call m) x cs

-- the answer of the plain list of this form, and its image, after each call
abbrev pub list_run : Map → OriginList → List Call → List (Answer × State)
list_run m x cs = run (image_of m) (origin_step (map_rules (player m))) x cs

-- the state, and the list, after a list of calls
unfoldable pub state_reached : Map → State → List Call → State
state_reached m x [] = x
state_reached m x (c ∷ cs) = state_reached m (call m c x).0 cs

unfoldable pub list_reached : Map → OriginList → List Call → OriginList
list_reached m x [] = x
list_reached m x (c ∷ cs) = list_reached m (origin_step (map_rules (player m)) c x).0 cs

-- one claim about the whole list of calls: the number, every field, every shadow byte, every byte of the cells and the counter after each call
abbrev pub WholeRun : Type 0
WholeRun = (m : Map) → good_map (player m) ≡ true → (cs : List Call) → state_run m (first_state m) cs ≡ list_run m first_list cs

-- 8 is never given
abbrev pub NoDamage : Type 0
NoDamage = (m : Map) → good_map (player m) ≡ true → (cs : List Call) → Each (λ (r : Answer × State). number r.0 ≢ 8) (state_run m (first_state m) cs)

-- and the list carries what it should after every call: at first too, wherever the counter stands from 1 to 4,294,967,296, where it ends
abbrev pub StaysCarried : Type 0
StaysCarried =
    (m : Map) → good_map (player m) ≡ true
    → ((k : ℕ) → 1 ≤ k → k ≤ 4294967296 → Carries (map_rules (player m)) (first_list_at k))
    × ((x : OriginList) → Carries (map_rules (player m)) x → (c : Call) → Carries (map_rules (player m)) (origin_step (map_rules (player m)) c x).0)

-- "clear zeroes all cells; clear and refusals leave the counter": clear makes the first state of any bytes of the right lengths, but for the
-- counter, so that a run that begins with clear is the plain list's too, from any bytes, with the counter that it found
abbrev pub ClearedRun : Type 0
ClearedRun =
    (m : Map) → good_map (player m) ≡ true → (x : State) → lengths_fit (player m) x.shadows ≡ true → cells_fit m x.cells ≡ true
    → (call m (plain clear) x ≡ (first_state_at m x.counter, answer 0 0 0 0 0))
    × (1 ≤ x.counter → x.counter ≤ 4294967296 → (cs : List Call)
    → state_run m x (plain clear ∷ cs) ≡ list_run m (first_list_at x.counter) (plain clear ∷ cs))

-- "After each call the cells hold exactly these: a live block's origin at its base's cell, a set pointer's referent at its own, zero elsewhere":
-- each cell of the areas, its two numbers of four bytes, are those of the list, which is 0 elsewhere (`StaysCarried`)
abbrev pub CellsHold : Type 0
CellsHold =
    (m : Map) → good_map (player m) ≡ true → (k : ℕ) → 1 ≤ k → k ≤ 4294967296 → (cs : List Call) (c : ℕ) → outside (player m) c ≡ false → c % 4 ≡ 0
    → (origin_in m (state_reached m (first_state_at m k) cs).cells c ≡ (list_reached m (first_list_at k) cs).origin c)
    × (referent_in m (state_reached m (first_state_at m k) cs).cells c ≡ (list_reached m (first_list_at k) cs).referent c)
