-- Demand 3, what it says: for every list of calls, from cleared shadows under one good map, numbers, fields and every shadow byte after each
-- call are those of the plain list; damage is never reported. Proved in proofs/Demand3.antt. The code comes in by its contracts: each function of
-- `monitor`, and `step` for any call, gives the answer and leaves the shadows that `call` says, so that a run of the code is `shadow_run`.
-- Assumes nothing.
use Rattle.std.specs.Prelude.{◌≡◌, ◌≢◌, true, List, [], ◌∷◌}
use Rattle.number.specs.Parts.{Each}
use Rattle.map.specs.FormMap.{FormMap}
use Rattle.map.specs.Map.{good_map}
use Rattle.plain.specs.Block.{Block}
use Rattle.plain.specs.Rules.{Placed}
use Rattle.plain.specs.Areas.{map_rules}
use Rattle.plain.specs.Call.{Call, clear, Answer, answer, number}
use Rattle.plain.specs.PlainList.{plain_step}
use Rattle.plain.specs.Run.{run}
use Rattle.shadows.specs.Shadows.{Shadows, lengths_fit, zero_shadows, image}
use Rattle.monitor_base.specs.Calls.{call}

-- the answer and every shadow byte after each call, each call on what the one before left
abbrev pub shadow_run : FormMap → Shadows → List Call → List (Answer × Shadows)
shadow_run m s cs = run (λ (x : Shadows). x) (call m) s cs

-- the answer of the plain list, and its image, after each call
abbrev pub plain_run : FormMap → List Block → List Call → List (Answer × Shadows)
plain_run m bs cs = run (image m) (plain_step (map_rules m)) bs cs

-- "Compared are the number, every answer field and, after each call, every shadow byte": one claim about the whole list of calls
abbrev pub WholeRun : FormMap → Type 0
WholeRun m = good_map m ≡ true → (cs : List Call) → shadow_run m (zero_shadows m) cs ≡ plain_run m [] cs

-- "8 never does" arise: no answer has number 8
abbrev pub NoDamage : FormMap → Type 0
NoDamage m =
    good_map m ≡ true → (cs : List Call) → Each (λ (r : Answer × Shadows). number r.0 ≢ 8) (shadow_run m (zero_shadows m) cs)

-- "clear: all shadows zero", whatever they held: shadows of the right lengths become cleared ones, so that a run that begins with clear is the
-- plain list's too, from any bytes
abbrev pub ClearedRun : FormMap → Type 0
ClearedRun m =
    good_map m ≡ true → (s : Shadows) → lengths_fit m s ≡ true
    → (call m clear s ≡ (zero_shadows m, answer 0 0 0 0 0)) × ((cs : List Call) → shadow_run m s (clear ∷ cs) ≡ plain_run m [] (clear ∷ cs))

-- demand 2, the rest: on the image of every placeable list, reached by calls or not, every call does what the list does
abbrev pub OnEveryImage : FormMap → Type 0
OnEveryImage m =
    good_map m ≡ true → (bs : List Block) → Placed (map_rules m) 0 bs → (c : Call)
    → call m c (image m bs) ≡ (image m (plain_step (map_rules m) c bs).0, (plain_step (map_rules m) c bs).1)

-- and keeps it placed: the live blocks stand "in address order", each fits and is aligned, and no footprints meet, after every call
abbrev pub StaysPlaced : FormMap → Type 0
StaysPlaced m =
    good_map m ≡ true → (bs : List Block) → Placed (map_rules m) 0 bs → (c : Call) → Placed (map_rules m) 0 (plain_step (map_rules m) c bs).0
