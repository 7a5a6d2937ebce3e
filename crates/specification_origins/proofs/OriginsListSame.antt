-- The plain list of the form with origins, and its image, are those that the library is proved against, for every call and list. Assumes nothing.
use mathlib.Core.Path.{◌≡◌, refl, ap, ◌∙◌}
use mathlib.Core.Bool.{true, not, ◌&&◌}
use mathlib.Core.List.{List, ◌++◌, append-nil}
use mathlib.Core.Option.{Option, none, some}
use Prim.Native.Nat.{ℕ, suc, ◌%◌}
use lib.Dec.{eqb}
use Rattle.map.specs.FormMap as library
use Rattle.map.specs.Map.{good_map}
use Rattle.types.specs.Block.{Block}
use Rattle.types.specs.Call as plains
use Rattle.types.specs.Call.{begin, first_of}
use Rattle.types.specs.Origins.{Call, plain, point, copy, live, OriginList}
use Rattle.plain.specs.Areas.{map_rules}
use Rattle.plain.specs.Block as block
use Rattle.plain.specs.Blocks as list
use Rattle.plain.specs.Call.{allows, by_rules}
use Rattle.plain.specs.PlainList.{by_list, list_after, list_answer, plain_step}
use Rattle.plain.specs.Rules as rules
use Rattle.plain.proofs.RunLaws.{accepted-0}
use Rattle.origins_list.specs.Call as role
use Rattle.origins_list.specs.OriginList.{origin_step, without_block, origin_found}
use Rattle.origins_base.specs.Calls as base
use Rattle.specification.specs.Map.{Map}
use Rattle.specification.specs.Blocks.{contains, holds, has_base, any, find}
use Rattle.specification.proofs.BlocksSame.{holds_same, any_same, find-same}
use Rattle.specification.proofs.Same.{player-list, player-image}
use Rattle.specification_origins.specs.OriginsList.{put, without, with_origins, origin_of, origin_held, on_origins, image_of}
use Rattle.specification_origins.specs.OriginsList as here
use Rattle.specification_origins.proofs.CellsSame.{cells-image}
use Rattle.specification_origins.proofs.OriginsSame.{Kind, clearing, recording, ending, leaving, kind, carried, recorded, not-and}

without-same : (o : Option Block) (f : ℕ → ℕ) → without o f ≡ without_block o f
without-same none f = refl
without-same (some b) f = refl

origin-of : (f : ℕ → ℕ) (o : Option Block) → origin_of f o ≡ origin_found f o
origin-of f none = refl
origin-of f (some b) = refl

module _ (m : Map) (x : OriginList) where
  abbrev R : rules.Rules
  R = map_rules (library.player m)

  abbrev bs : List Block
  bs = x.blocks

  -- the list with other blocks
  abbrev like : (origin referent : ℕ → ℕ) (counter : ℕ) → List Block → OriginList
  like f g k l = record { blocks = l; origin = f; referent = g; counter = k }

  with-same : {c : plains.Call} → Kind c → with_origins c x (plain_step R c bs) ≡ origin_step R (plain c) x
  unfolding plain_step origin_step
  with-same clearing = refl
  with-same (recording how b l) =
      recorded true true true (eqb l 0) (not (allows R how b l)) (not (R.aligned b)) (not (eqb (b % 4) 0)) (list.any (rules.meets R b l) bs) (not (role.is_origin x.counter))
      bs (list_after (begin how b l) bs) x (like (put b x.counter x.origin) x.referent (suc x.counter))
  with-same (ending c b d r i) =
      let f : ℕ → ℕ = without_block (list.find (has_base b) bs) x.origin in
      let g : ℕ → ℕ = without_block (list.find (has_base b) bs) x.referent in
      rw (
        d,
        r,
        append-nil (by_list R c bs),
        find-same (has_base b) bs,
        without-same (list.find (has_base b) bs) x.origin,
        without-same (list.find (has_base b) bs) x.referent,
      )
      (carried true true true (first_of (by_rules R c ++ by_list R c bs)) bs (list_after c bs) (list_answer R c bs) x (like f g x.counter (list_after c bs)) (like f g x.counter)
      (accepted-0 R c bs) (λ t z. refl))
  with-same (leaving c d r) =
      rw (d, r, append-nil (by_list R c bs))
      (carried true true true (first_of (by_rules R c ++ by_list R c bs)) bs (list_after c bs) (list_answer R c bs) x (like x.origin x.referent x.counter (list_after c bs))
      (like x.origin x.referent x.counter) (accepted-0 R c bs) (λ t z. refl))

  -- 11, and the origin of the block that holds an address
  pointer-same : (c : ℕ) → here.no_pointer x c ≡ not (eqb (c % 4) 0 && list.any (block.holds c 4) bs)
  pointer-same c = rw (any_same (holds c 4) (block.holds c 4) (holds_same c 4) bs) (not-and (eqb (c % 4) 0) (list.any (block.holds c 4) bs))

  held_same : (a : ℕ) → origin_held x a ≡ origin_found x.origin (list.find (contains a) bs)
  held_same a = rw (find-same (contains a) bs) (origin-of x.origin (list.find (contains a) bs))

pub step_same : (m : Map) → good_map (library.player m) ≡ true → (c : Call) (x : OriginList) → on_origins m c x ≡ origin_step (map_rules (library.player m)) c x
unfolding on_origins origin_step
step_same m g (plain c) x = ap (with_origins c x) (player-list m g c x.blocks) ∙ with-same m x (kind c)
step_same m g (point c a) x = rw (pointer-same m x c, held_same m x a)
step_same m g (copy t f) x = rw (pointer-same m x t, pointer-same m x f)
step_same m g (live c a) x = rw (pointer-same m x c, held_same m x a)

pub image_same : (m : Map) (x : OriginList) → good_map (library.player m) ≡ true → rules.Placed (map_rules (library.player m)) 0 x.blocks → image_of m x ≡ base.image_of m x
image_same m x g p = rw (player-image m x.blocks g p, cells-image m x.origin x.referent)
