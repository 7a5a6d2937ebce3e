-- The bytes of the place of a stack block, in the image of any list that has it: those that it makes, whatever the other blocks are.
-- Assumes nothing.
use mathlib.Core.Path.{◌≡◌, ◌∙◌}
use mathlib.Core.Bool.{true}
use mathlib.Core.List.{List}
use Prim.Native.Nat.{ℕ, ◌+◌, ◌-◌, ◌≤◌, ◌<◌}
use native.Mathlib.Omega.{arith}
use Rattle.number.specs.Parts.{at}
use Rattle.number.proofs.PartLaws.{at-tab}
use Rattle.map.specs.FormMap.{FormMap}
use Rattle.map.specs.Map.{good_map}
use Rattle.plain.specs.Block.{Block, len}
use Rattle.plain.specs.Blocks.{Has}
use Rattle.plain.specs.Rules.{Placed}
use Rattle.plain.specs.Areas.{stack_rules, map_rules}
use Rattle.plain.specs.Lift.{down, downs}
use Rattle.plain.specs.Join.{only}
use Rattle.plain.proofs.BlockLaws.{true-contains}
use Rattle.plain.proofs.HasLaws.{has-only, has-map}
use Rattle.plain.proofs.AreaLaws.{stack-span, stack-sound}
use Rattle.plain.proofs.LayerLaws.{layer-has, listed}
use Rattle.stack_layout.specs.Image.{primary_own, secondary_own, by_block, stack_image}
use Rattle.stack_layout.proofs.ImageLaws.{covers, in-foot}
use Rattle.shadows.specs.Shadows.{image}
use Rattle.shadows.proofs.ShadowLaws.{stack-placed}

module _ (m : FormMap) (ok : good_map m ≡ true) (bs : List Block) (P : Placed (map_rules m) 0 bs) (b : Block) (h : Has b bs)
    (i : (stack_rules m.stack_start m.stack_size).inside b.base ≡ true) (q : ℕ) (x : b.base - m.stack_start ≤ q)
    (y : q < b.base - m.stack_start + len b) where
  abbrev d : Block
  d = down m.stack_start b

  abbrev ds : List Block
  ds = downs m.stack_start (only (stack_rules m.stack_start m.stack_size).inside bs)

  has : Has d ds
  has = has-map (down m.stack_start) (has-only (stack_rules m.stack_start m.stack_size).inside i h)

  Q : Placed (stack_rules 0 m.stack_size) 0 ds
  Q = stack-placed m ok bs P

  inside : q < m.stack_size
  inside =
      let l = listed (stack_rules 0 m.stack_size) (stack-sound 0 m.stack_size) 0 Q has in
      omega (arith, stack-span 0 m.stack_size d.base (len d) l.fits)

  made : (own : Block → ℕ → ℕ) → by_block own ds q ≡ own d q
  made own =
      layer-has (stack_rules 0 m.stack_size) (stack-sound 0 m.stack_size) covers (λ p. p) (in-foot m.stack_size) q own 0 0 Q has
      (true-contains q d x y)

  pub primary-own : at (image m bs).1.0 q ≡ primary_own (down m.stack_start b) q
  unfolding stack_image
  primary-own = at-tab m.stack_size q (by_block primary_own ds) inside ∙ made primary_own

  pub secondary-own : at (image m bs).1.1 q ≡ secondary_own (down m.stack_start b) q
  unfolding stack_image
  secondary-own = at-tab m.stack_size q (by_block secondary_own ds) inside ∙ made secondary_own
