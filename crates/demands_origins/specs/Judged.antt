-- Request S-4: kind 13 "answers 1 exactly if the very allocation the pointer was last set to is live and holds the address, judged by the history of
-- calls; a pointer unset or set to no block gets 0". For runs of any length, also those that use up all origins. Proved in proofs/Judged.antt.
-- Assumes nothing.
use Rattle.std.specs.Prelude.{◌≡◌, true, List, [], ◌∷◌, ℕ, ◌≤◌, eqb}
use Rattle.number.specs.Bits.{bit}
use Rattle.map.specs.declared.Map.{Map}
use Rattle.map.specs.FormMap.{player}
use Rattle.map.specs.Map.{good_map}
use Rattle.plain.specs.Call.{answer}
use Rattle.origins_list.specs.Call.{Call, live}
use Rattle.origins_list.specs.History.{History, judged}
use Rattle.origins_base.specs.Calls.{State, call, first_state_at}
use Rattle.demands_origins.specs.Demand1.{number_of}
use Rattle.demands_origins.specs.Demand3.{state_reached}

-- the history of a list of calls, behind that of those before: each call with whether it was accepted, the latest first
unfoldable pub history : Map → State → (before : History) → List Call → History
history m x h [] = h
history m x h (c ∷ cs) = history m (call m c x).0 ((c, eqb (number_of m c x) 0) ∷ h) cs

-- for every good map and every list of calls made before, refused ones among them, wherever the counter stood at first (at 1, or where a map before
-- left it): whatever its number, the answer field of kind 13 is what the history says, 1 or 0
abbrev pub JudgedByHistory : Type 0
JudgedByHistory =
    (m : Map) → good_map (player m) ≡ true → (k : ℕ) → 1 ≤ k → k ≤ 4294967296 → (before : List Call) (c a : ℕ)
    → (call m (live c a) (state_reached m (first_state_at m k) before)).1
    ≡ answer (number_of m (live c a) (state_reached m (first_state_at m k) before)) (bit (judged (history m (first_state_at m k) [] before) c a)) 0 0 0
