-- Kind 13 of the form with origins is judged by the history of calls: see specification_origins, History.antt. Assumes nothing.
use mathlib.Core.Path.{◌≡◌, refl, sym}
use mathlib.Core.Bool.{true}
use mathlib.Core.List.{List, [], ◌∷◌}
use mathlib.Core.Option.{Option, none}
use Prim.Native.Nat.{ℕ, zero, suc, ◌≤◌}
use native.Mathlib.Omega.{arith}
use lib.Dec.{eqb}
use borrow.Author.Tests.{ne_eqb}
use Rattle.number.specs.Bits.{bit}
use Rattle.map.specs.FormMap as library
use Rattle.map.specs.Map.{good_map}
use Rattle.types.specs.Call as plains
use Rattle.types.specs.Call.{answer, number, first_of, unless}
use Rattle.types.specs.Origins.{Call, plain, point, copy, live, OriginList}
use Rattle.plain.specs.Areas.{map_rules}
use Rattle.plain.specs.Rules.{Rules}
use Rattle.origins_list.specs.Cells.{Held}
use Rattle.origins_list.specs.History as told
use Rattle.origins_list.specs.OriginList.{first_list_at, by_origins, origins_after, origin_answer, origin_step}
use Rattle.origins_list.proofs.CarriedLaws.{first-told}
use Rattle.origins_list.proofs.HistoryLaws.{Matches, neither, both}
use Rattle.origins_list.proofs.KeepLaws.{spans-true, no-taken}
use Rattle.origins_list.proofs.SpotLaws.{Spot, vacant, spot, spot-alone}
use Rattle.origins_list.proofs.StepLaws.{begins, accepted-0, TellsOf, step-good, step-told}
use Rattle.origins_base.specs.Calls as base
use Rattle.demands_origins.specs.Demand3 as demand
use Rattle.demands_origins.specs.Judged as demand-judged
use Rattle.demands_origins.proofs.Demand3.{sound, GoodList, one-call, first-image, first-list}
use Rattle.demands_origins.proofs.Judged.{judged_by_history}
use Rattle.specification.specs.Map.{Map}
use Rattle.specification_origins.specs.Origins.{Lent, call}
use Rattle.specification_origins.specs.History.{History, judged}
use Rattle.specification_origins.specs.Votes.{number_of, first, reached, history_of}
use Rattle.specification_origins.proofs.HistorySame.{Sane, Fresh, judged-same}
use Rattle.specification_origins.proofs.OriginsSame.{Kind, clearing, recording, ending, leaving, kind, call_same}

pub reached-same : (m : Map) (cs : List Call) (x : Lent) → reached m x cs ≡ demand.state_reached m x cs
unfolding reached demand.state_reached
reached-same m [] x = refl
reached-same m (c ∷ cs) x = rw (call_same m c x) (reached-same m cs (base.call m c x).0)

history-same : (m : Map) (cs : List Call) (x : Lent) (h : History) → history_of m x h cs ≡ demand-judged.history m x h cs
unfolding history_of demand-judged.history
history-same m [] x h = refl
history-same m (c ∷ cs) x h = rw (call_same m c x) (history-same m cs (base.call m c x).0 ((c, eqb (number (base.call m c x).1) 0) ∷ h))

-- in the history of a run no recording took an address that a live allocation held
module _ (m : Map) (ok : good_map (library.player m) ≡ true) (k : ℕ) (one_up : 1 ≤ k) where
  abbrev R : Rules
  R = map_rules (library.player m)

  abbrev Told : History → OriginList → Type 0
  Told h x = TellsOf R (sound m ok) k h x

  nobody : (h : History) (f : Held) (o : Option told.Allocation) (y : Spot) → Matches k h f o y → y ≡ vacant → o ≡ none
  nobody h f o y neither e = refl
  nobody h f o y (both n l t q) e = absurd (no-taken n.base l (sym e))

  module _ (x : OriginList) (g : GoodList m ok x) (h : History) (T : Told h x) where
    fresh-plain : {c : plains.Call} → Kind c → first_of (by_origins R (plain c) x) ≡ 0 → Fresh (plain c) h
    fresh-plain clearing e = tt
    fresh-plain (recording how b l) e =
        λ a t.
        let (lo, hi) = spans-true b l a t in
        nobody h x.origin (told.holder h a) (spot x.blocks a) (T.stands a)
        (spot-alone R (sound m ok) how b l x.blocks g.placed (begins R how b l x e).joins a lo hi)
    fresh-plain (ending c b d r i) e = rw r tt
    fresh-plain (leaving c d r) e = rw r tt

    fresh : (c : Call) → first_of (by_origins R c x) ≡ 0 → Fresh c h
    fresh (plain c) e = fresh-plain (kind c) e
    fresh (point c a) e = tt
    fresh (copy t f) e = tt
    fresh (live c a) e = tt

    sane-step : Sane h → (c : Call) → Sane ((c, eqb (number (origin_step R c x).1) 0) ∷ h)
    unfolding origin_step
    sane-step s c = go (first_of (by_origins R c x)) refl
      where
        go : (n : ℕ) → first_of (by_origins R c x) ≡ n → Sane ((c, eqb (number (unless n x (origins_after c x, origin_answer R c x)).1) 0) ∷ h)
        go zero e = rw (accepted-0 R c x) (fresh c e, s)
        go (suc n) e = rw (ne_eqb (suc n) 0 (omega arith)) s

  sane-from : (cs : List Call) (x : OriginList) (h : History) → GoodList m ok x → Told h x → Sane h → Sane (demand-judged.history m (base.image_of m x) h cs)
  unfolding demand-judged.history
  sane-from [] x h g T s = s
  sane-from (c ∷ cs) x h g T s =
      rw (one-call m ok x g c)
      (sane-from cs (origin_step R c x).0 ((c, eqb (number (origin_step R c x).1) 0) ∷ h) (step-good R (sound m ok) x g c)
      (step-told R (sound m ok) x g c k one_up h T) (sane-step x g h T s c))

  module _ (last : k ≤ 4294967296) (cs : List Call) where
    sane-run : Sane (history_of m (first m k) [] cs)
    sane-run =
        rw (history-same m cs (first m k) [], ← first-image m ok k)
        (sane-from cs (first_list_at k) [] (first-list m ok k one_up last) (first-told R (sound m ok) k) tt)

    pub judged-so : (c a : ℕ)
        → let x = reached m (first m k) cs in
        (call m (live c a) x).1 ≡ answer (number_of m (live c a) x) (bit (judged (history_of m (first m k) [] cs) c a)) 0 0 0
    judged-so c a =
        rw (
          judged-same (history_of m (first m k) [] cs) sane-run c a,
          history-same m cs (first m k) [],
          reached-same m cs (first m k),
          call_same m (live c a) (demand.state_reached m (first m k) cs),
        )
        (judged_by_history m ok k one_up last cs c a)
