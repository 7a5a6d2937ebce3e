-- The demands of the form with origins, proved: see specification_origins, Votes.antt. Assumes nothing.
use mathlib.Core.Path.{◌≡◌, refl, sym, ap, ◌∙◌}
use mathlib.Core.Bool.{Bool, true, false, not, ◌&&◌, ◌||◌, false≢true}
use mathlib.Core.List.{List, [], ◌∷◌}
use Prim.Native.Nat.{ℕ, ◌%◌, ◌≤◌}
use native.Mathlib.Omega.{arith}
use Rattle.map.specs.FormMap as library
use Rattle.map.specs.Map.{good_map}
use Rattle.map.specs.declared.Form.TheVariants.{Player}
use Rattle.map.proofs.MapLaws.{good-true}
use Rattle.types.specs.Call.{clear}
use Rattle.types.specs.Origins.{Call, plain, OriginList}
use Rattle.plain.specs.Areas.{map_rules}
use Rattle.plain.specs.Block as block
use Rattle.plain.specs.Blocks as list
use Rattle.plain.specs.Run.{run}
use Rattle.origins_list.specs.Carries as base
use Rattle.origins_list.specs.OriginList.{origin_step}
use Rattle.origins_list.proofs.StepLaws.{step-good}
use Rattle.origins_list.proofs.CarriedLaws.{carried}
use Rattle.origins_base.specs.Calls as base-calls
use Rattle.demands_origins.specs.Alters.{origin_in, referent_in}
use Rattle.demands_origins.specs.Demand3 as demand
use Rattle.demands_origins.proofs.CellLaws.{cell-start, origin-words, referent-words}
use Rattle.demands_origins.proofs.Demand3 as proved
use Rattle.demands_origins.proofs.Demand3.{sound, GoodList, run-from, first-list}
use Rattle.specification.specs.Map.{Map, good, in_heap, in_stack, outside}
use Rattle.specification.specs.Blocks.{holds, has_base, any}
use Rattle.specification.specs.Image.{may_stand}
use Rattle.specification.proofs.BlocksSame.{any_same, holds_same}
use Rattle.specification.proofs.Same.{good-same, lengths-same, stand-placed, placed-stand}
use Rattle.specification_origins.specs.Cells.{Cells, origin_at, referent_at}
use Rattle.specification_origins.specs.Origins.{Lent}
use Rattle.specification_origins.specs.OriginsList.{on_origins, image_of}
use Rattle.specification_origins.specs.Votes.{FirstVote, lent_run, list_run, reached, list_reached, first, first_list, Carries, ThirdVote}
use Rattle.specification_origins.proofs.CellsSame.{origin-same, referent-same, right-same}
use Rattle.specification_origins.proofs.OriginsSame.{call_same}
use Rattle.specification_origins.proofs.OriginsListSame.{step_same, image_same}
use Rattle.promises.proofs.FirstVote.{first-vote}
use Rattle.promises.proofs.OriginsFirst.{first_by}
use Rattle.promises.proofs.OriginsHistory.{reached-same, judged-so}

-- ---- what a list carries, here and in the library

base_same : (b : ℕ) (x : OriginList) → any (has_base b) x.blocks ≡ list.any (block.has_base b) x.blocks
base_same b x = any_same (has_base b) (block.has_base b) (λ c. refl) x.blocks

four_same : (c : ℕ) (x : OriginList) → any (holds c 4) x.blocks ≡ list.any (block.holds c 4) x.blocks
four_same c x = any_same (holds c 4) (block.holds c 4) (holds_same c 4) x.blocks

pub to-library : (m : Map) (x : OriginList) → Carries m x → base.Carries (map_rules (library.player m)) x
to-library m x C =
    record {
      placed = stand-placed Player m x.blocks 0 C.stands;
      based = λ b e. C.based b (base_same b x ∙ e);
      unbased = λ b e. C.unbased b (base_same b x ∙ e);
      own = λ b c e q z. C.own b c (base_same b x ∙ e) (base_same c x ∙ q) z;
      pointed = λ c n. let p = C.pointed c n in (p.0, sym (four_same c x) ∙ p.1);
      known = C.known;
      last = C.last;
    }

pub from-library : (m : Map) (x : OriginList) → base.Carries (map_rules (library.player m)) x → Carries m x
from-library m x C =
    record {
      stands = placed-stand Player m x.blocks 0 C.placed;
      based = λ b e. C.based b (sym (base_same b x) ∙ e);
      unbased = λ b e. C.unbased b (sym (base_same b x) ∙ e);
      own = λ b c e q z. C.own b c (sym (base_same b x) ∙ e) (sym (base_same c x) ∙ q) z;
      pointed = λ c n. let p = C.pointed c n in (p.0, four_same c x ∙ p.1);
      known = C.known;
      last = C.last;
    }

-- the list of no block does, under any map
first-carried : (m : Map) (k : ℕ) → 1 ≤ k → k ≤ 4294967296 → Carries m (first_list k)
unfolding may_stand any
first-carried m k o n =
    record {
      stands = refl;
      based = λ b e. absurd (false≢true e);
      unbased = λ b e. refl;
      own = λ b c e q z. absurd (false≢true e);
      pointed = λ c z. absurd (z refl);
      known = λ c. omega arith;
      last = (o, n);
    }

-- ---- runs

lent_same : (m : Map) (cs : List Call) (x : Lent) → lent_run m x cs ≡ demand.state_run m x cs
unfolding lent_run run
lent_same m [] x = refl
lent_same m (c ∷ cs) x = rw (call_same m c x, lent_same m cs (base-calls.call m c x).0)

-- in neither area, as the library says it
not-or : (h k : Bool) → not (h || k) ≡ false → (not h && not k) ≡ false
not-or true k e = refl
not-or false true e = refl
not-or false false e = e

module _ (m : Map) (ok : good_map (library.player m) ≡ true) where
  good-list : (x : OriginList) → Carries m x → GoodList m ok x
  good-list x C = carried (map_rules (library.player m)) (sound m ok) x (to-library m x C)

  list_same : (cs : List Call) (x : OriginList) → GoodList m ok x → list_run m x cs ≡ demand.list_run m x cs
  unfolding list_run run
  list_same [] x g = refl
  list_same (c ∷ cs) x g =
      let y : OriginList = (origin_step (map_rules (library.player m)) c x).0 in
      let h : GoodList m ok y = step-good (map_rules (library.player m)) (sound m ok) x g c in
      rw (step_same m ok c x, image_same m y ok h.placed, list_same cs y h)

  reached-list : (cs : List Call) (x : OriginList) → list_reached m x cs ≡ demand.list_reached m x cs
  unfolding list_reached demand.list_reached
  reached-list [] x = refl
  reached-list (c ∷ cs) x = rw (step_same m ok c x) (reached-list cs (origin_step (map_rules (library.player m)) c x).0)

  stays : (x : OriginList) → Carries m x → (c : Call) → Carries m (on_origins m c x).0
  stays x C c = rw (step_same m ok c x) (from-library m _ ((proved.stays_carried m ok).1 x (to-library m x C) c))

  from-image : (x : OriginList) → GoodList m ok x → (cs : List Call) → lent_run m (image_of m x) cs ≡ list_run m x cs
  from-image x g cs = rw (image_same m x ok g.placed, lent_same m cs (base-calls.image_of m x), list_same cs x g) (run-from m ok x g cs)

  -- a cell's two numbers
  origin-in : (y : Cells) (c : ℕ) → c % 4 ≡ 0 → origin_at m y c ≡ origin_in m y c
  origin-in y c e = origin-same m y c ∙ origin-words m (good-true (library.player m) ok) y c ∙ ap (origin_in m y) (cell-start c e)

  referent-in : (y : Cells) (c : ℕ) → c % 4 ≡ 0 → referent_at m y c ≡ referent_in m y c
  referent-in y c e = referent-same m y c ∙ referent-words m (good-true (library.player m) ok) y c e

  holds-cells : (k : ℕ) → 1 ≤ k → k ≤ 4294967296 → (cs : List Call) (c : ℕ) → outside m c ≡ false → c % 4 ≡ 0
      → (origin_at m (reached m (first m k) cs).cells c ≡ (list_reached m (first_list k) cs).origin c)
      × (referent_at m (reached m (first m k) cs).cells c ≡ (list_reached m (first_list k) cs).referent c)
  holds-cells k o n cs c i e =
      let y : Cells = (demand.state_reached m (first m k) cs).cells in
      let h = proved.cells_hold m ok k o n cs c (not-or (in_heap m c) (in_stack m c) i) e in
      rw (reached-same m cs (first m k), reached-list cs (first_list k)) (origin-in y c e ∙ h.0, referent-in y c e ∙ h.1)

-- ---- the votes

pub origins-first-vote : (m : Map) → FirstVote m
origins-first-vote m = first_by m (first-vote Player m).by_the_table

pub origins-third-vote : (m : Map) → ThirdVote m
origins-third-vote m =
    let good-so : good m ≡ true → good_map (library.player m) ≡ true = λ g. sym (good-same Player m) ∙ g in
    record {
      whole_run = λ g cs. let ok = good-so g in
          lent_same m cs (first m 1) ∙ proved.whole_run m ok cs ∙ sym (list_same m ok cs (first_list 1) (first-list m ok 1 (omega arith) (omega arith)));
      no_damage = λ g cs. rw (lent_same m cs (first m 1)) (proved.no_damage m (good-so g) cs);
      cleared_run = λ g x l f o n cs. let ok = good-so g in
          lent_same m (plain clear ∷ cs) x
          ∙ (proved.cleared_run m ok x (sym (lengths-same Player m x.shadows) ∙ l) (sym (right-same m x.cells) ∙ f)).1 o n cs
          ∙ sym (list_same m ok (plain clear ∷ cs) (first_list x.counter) (first-list m ok x.counter o n));
      image_run = λ g x C cs. let ok = good-so g in from-image m ok x (good-list m ok x C) cs;
      first_carries = first-carried m;
      stays_carried = λ g. stays m (good-so g);
      cells_hold = λ g. holds-cells m (good-so g);
      judged_by_history = λ g. judged-so m (good-so g);
    }
