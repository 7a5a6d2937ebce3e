-- Kind 13 is judged by the history of calls, proved: see specs/Judged.antt for what each says. Assumes nothing.
use mathlib.Core.Path.{◌≡◌, ap, ◌∙◌}
use mathlib.Core.Bool.{true}
use mathlib.Core.List.{List, [], ◌∷◌}
use Prim.Native.Nat.{ℕ, ◌+◌, ◌≤◌}
use Rattle.number.specs.Bits.{bit}
use Rattle.map.specs.declared.Map.{Map}
use Rattle.map.specs.FormMap.{player}
use Rattle.map.specs.Map.{good_map}
use Rattle.plain.specs.Areas.{map_rules}
use Rattle.plain.specs.Call.{answer}
use Rattle.origins_list.specs.Call.{Call, live}
use Rattle.origins_list.specs.OriginList.{OriginList, first_list_at, origin_step}
use Rattle.origins_list.specs.History.{History, recordings, judged}
use Rattle.origins_list.proofs.StepLaws.{TellsOf, step-good, step-told}
use Rattle.origins_list.proofs.CarriedLaws.{first-told, step-judged}
use Rattle.origins_base.specs.Calls.{State, call, first_state_at, image_of}
use Rattle.demands_origins.specs.Demand1.{number_of}
use Rattle.demands_origins.specs.Demand3.{state_reached, list_reached}
use Rattle.demands_origins.specs.Judged.{history, JudgedByHistory}
use Rattle.demands_origins.proofs.Demand3.{sound, GoodList, one-call, first-image, first-list, reached}

module _ (m : Map) (ok : good_map (player m) ≡ true) (k : ℕ) (first : 1 ≤ k) where
  abbrev Told : History → OriginList → Type 0
  Told h x = TellsOf (map_rules (player m)) (sound m ok) k h x

  -- the history of a run tells what the list reached is
  told-from : (cs : List Call) (h : History) (x : OriginList) → GoodList m ok x → Told h x → Told (history m (image_of m x) h cs) (list_reached m x cs)
  unfolding history list_reached
  told-from [] h x g T = T
  told-from (c ∷ cs) h x g T =
      rw (one-call m ok x g c)
      (told-from cs _ (origin_step (map_rules (player m)) c x).0 (step-good (map_rules (player m)) (sound m ok) x g c)
      (step-told (map_rules (player m)) (sound m ok) x g c k first h T))

  module _ (last : k ≤ 4294967296) (before : List Call) where
    abbrev now : OriginList
    now = list_reached m (first_list_at k) before

    good : GoodList m ok now
    good = (reached m ok k first last before).1

    there : state_reached m (first_state_at m k) before ≡ image_of m now
    there = (reached m ok k first last before).0

    told : Told (history m (first_state_at m k) [] before) now
    told = rw (← first-image m ok k) (told-from before [] (first_list_at k) (first-list m ok k first last) (first-told (map_rules (player m)) (sound m ok) k))

    pub counts : (state_reached m (first_state_at m k) before).counter ≡ k + recordings (history m (first_state_at m k) [] before)
    counts = ap (λ (x : State). x.counter) there ∙ told.count

    pub judges : (c a : ℕ)
        → (call m (live c a) (state_reached m (first_state_at m k) before)).1
        ≡ answer (number_of m (live c a) (state_reached m (first_state_at m k) before)) (bit (judged (history m (first_state_at m k) [] before) c a)) 0 0 0
    judges c a =
        rw (there, one-call m ok now good (live c a))
        (step-judged (map_rules (player m)) (sound m ok) now good k first (history m (first_state_at m k) [] before) told c a)

pub judged_by_history : JudgedByHistory
judged_by_history m ok k o n before c a = judges m ok k o n before c a
