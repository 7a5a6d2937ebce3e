-- The third demand, of the player and of the desk: see ThirdVote in specification/specs/Votes.antt. Assumes nothing.
use mathlib.Core.Path.{◌≡◌, refl, sym, ◌∙◌}
use mathlib.Core.Bool.{true}
use mathlib.Core.List.{List, [], ◌∷◌}
use Rattle.map.specs.declared.Map.{Map}
use Rattle.map.specs.declared.Form as kind
use Rattle.map.specs.FormMap.{FormMap, under}
use Rattle.map.specs.Map.{good_map}
use Rattle.plain.specs.Areas.{map_rules}
use Rattle.plain.specs.PlainList.{plain_step}
use Rattle.plain.specs.Rules.{Placed}
use Rattle.plain.specs.Run.{run}
use Rattle.plain.proofs.RunLaws.{run-same}
use Rattle.types.specs.Block.{Block}
use Rattle.types.specs.Call.{Call, clear}
use Rattle.shadows.specs.Shadows as library
use Rattle.monitor_base.specs.Calls as base
use Rattle.demands.specs.Demand3 as library-runs
use Rattle.demands.proofs.Demand3.{on_every_image, whole_run, no_damage, cleared_run, stays_placed}
use Rattle.specification.specs.Map.{Shadows}
use Rattle.specification.specs.Form.{Form}
use Rattle.specification.specs.Image.{image}
use Rattle.specification.specs.Votes.{shadow_run, list_run, ThirdVote}
use Rattle.specification.proofs.Forms.{form}
use Rattle.specification.proofs.Same.{call_same, list_same, image_same, good-same, lengths-same, stand-placed, placed-stand}

module _ (f : kind.Form) (m : Map) where
  abbrev F : Form
  F = form f

  abbrev M : FormMap
  M = under f m

  shadow-runs : (s : Shadows) (cs : List Call) → shadow_run F m s cs ≡ library-runs.shadow_run M s cs
  unfolding shadow_run run
  shadow-runs s [] = refl
  shadow-runs s (c ∷ cs) = rw (call_same f m c s, shadow-runs (base.call M c s).0 cs)

  module _ (g : good_map M ≡ true) where
    list-runs : (bs : List Block) → Placed (map_rules M) 0 bs → (cs : List Call) → list_run F m bs cs ≡ library-runs.plain_run M bs cs
    unfolding list_run run
    list-runs bs P [] = refl
    list-runs bs P (c ∷ cs) =
        let Q = stays_placed M g bs P c in
        let ds = (plain_step (map_rules M) c bs).0 in
        rw (list_same f m g c bs, image_same f m ds g Q, list-runs ds Q cs)

    image-runs : (bs : List Block) → Placed (map_rules M) 0 bs → (cs : List Call) → shadow_run F m (image F m bs) cs ≡ list_run F m bs cs
    image-runs bs P cs =
        rw (image_same f m bs g P, shadow-runs (library.image M bs) cs, list-runs bs P cs)
        (run-same (library.image M) (Placed (map_rules M) 0) (base.call M) (plain_step (map_rules M)) (λ c ds Q. on_every_image M g ds Q c) (λ c ds Q. stays_placed M g ds Q c) cs bs P)

  pub third-vote : ThirdVote F m
  third-vote =
      record {
        whole_run = λ g cs. shadow-runs (library.zero_shadows M) cs ∙ whole_run M (good g) cs ∙ sym (list-runs (good g) [] tt cs);
        no_damage = λ g cs. rw (shadow-runs (library.zero_shadows M) cs) (no_damage M (good g) cs);
        cleared_run = λ g s l cs.
            shadow-runs s (clear ∷ cs) ∙ (cleared_run M (good g) s (sym (lengths-same f m s) ∙ l)).1 cs ∙ sym (list-runs (good g) [] tt (clear ∷ cs));
        image_run = λ g bs S. image-runs (good g) bs (stand-placed f m bs 0 S);
        stays_standing = λ g bs S c. placed-stand f m _ 0 (rw (list_same f m (good g) c bs) (stays_placed M (good g) bs (stand-placed f m bs 0 S) c));
      }
    where
      good : F.good m ≡ true → good_map M ≡ true
      good g = sym (good-same f m) ∙ g
