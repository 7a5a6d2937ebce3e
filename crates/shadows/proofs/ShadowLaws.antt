-- The three shadows of a good map meet the laws of images, both ways. Assumes nothing.
use mathlib.Core.Path.{◌≡◌}
use mathlib.Core.Bool.{true, ◌&&◌}
use mathlib.Core.List.{List}
use Prim.Native.Nat.{ℕ, ◌-◌, ◌<◌}
use native.Mathlib.Omega.{arith}
use lib.ListN.{length}
use lib.Dec.{eqb}
use borrow.Author.Tests.{eq-eqb, eqb-true}
use Rattle.number.proofs.TestLaws.{and-true}
use Rattle.number.proofs.PartLaws.{length-tab}
use Rattle.map.specs.FormMap.{FormMap}
use Rattle.map.specs.Map.{good_map}
use Rattle.map.proofs.MapLaws.{Good, good-true, segment-least, number-holds}
use Rattle.plain.specs.Block.{Block}
use Rattle.plain.specs.Rules.{Rules, Placed, Sound}
use Rattle.plain.specs.Areas.{heap_rules, stack_rules, map_rules}
use Rattle.plain.specs.Images.{Images, Scanned}
use Rattle.plain.specs.Lift.{lift_ops, downs}
use Rattle.plain.specs.Join.{Separate, only}
use Rattle.plain.proofs.AreaLaws.{ranges-separate, heap-sound, heap-shifted, heap-unshifted, heap-ranged, stack-sound, stack-shifted, stack-unshifted, stack-ranged}
use Rattle.plain.proofs.LiftLaws.{lift-placed, lift-images, lift-scanned}
use Rattle.plain.proofs.OnlyLaws.{only-placed}
use Rattle.plain.proofs.StampedLaws.{Stamped, lift-stamped, join-stamped}
use Rattle.plain.proofs.JoinLaws.{join-sound, part-b, join-images, join-scanned}
use Rattle.heap_layout.specs.Image.{heap_image}
use Rattle.heap_layout.specs.Ops.{heap_ops}
use Rattle.heap_layout.proofs.StampedLaws.{heap-stamped}
use Rattle.heap_layout.proofs.HeapImages.{heap-images, heap-scanned}
use Rattle.stack_layout.specs.Image.{stack_image}
use Rattle.stack_layout.specs.Ops.{stack_ops}
use Rattle.stack_layout.proofs.StampedLaws.{stack-stamped}
use Rattle.stack_layout.proofs.StackImages.{stack-images, stack-scanned}
use Rattle.shadows.specs.Shadows.{Shadows, lengths_fit, shadow_ops, image}

-- each shadow is as long as its area, as facts
abbrev pub Fit : FormMap → Shadows → Type 0
Fit m s = (length s.0 ≡ m.heap_size) × ((length s.1.0 ≡ m.stack_size) × (length s.1.1 ≡ m.stack_size))

pub fit-true : (m : FormMap) (s : Shadows) → lengths_fit m s ≡ true → Fit m s
unfolding lengths_fit
fit-true m s e =
    let a = and-true (eqb (length s.0) m.heap_size && eqb (length s.1.0) m.stack_size) (eqb (length s.1.1) m.stack_size) e in
    let b = and-true (eqb (length s.0) m.heap_size) (eqb (length s.1.0) m.stack_size) a.0 in (
      eqb-true (length s.0) m.heap_size b.0,
      (eqb-true (length s.1.0) m.stack_size b.1, eqb-true (length s.1.1) m.stack_size a.1),
    )

pub true-fit : (m : FormMap) (s : Shadows) → Fit m s → lengths_fit m s ≡ true
unfolding lengths_fit
true-fit m s f =
    rw (
      eq-eqb (length s.0) m.heap_size f.0,
      eq-eqb (length s.1.0) m.stack_size f.1.0,
      eq-eqb (length s.1.1) m.stack_size f.1.1,
    )

-- an image has the right lengths
pub image_fits : (m : FormMap) (bs : List Block) → lengths_fit m (image m bs) ≡ true
unfolding heap_image stack_image
image_fits m bs =
    true-fit m (image m bs) (length-tab 0 m.heap_size _, (length-tab 0 m.stack_size _, length-tab 0 m.stack_size _))

module _ (m : FormMap) (ok : good_map m ≡ true) where
  g : Good m
  g = good-true m ok

  abbrev W : ℕ
  W = m.width

  abbrev G : ℕ
  G = m.segment

  some : 0 < G
  some = omega (arith, segment-least m)

  abbrev hs : ℕ
  hs = m.heap_start

  abbrev hz : ℕ
  hz = m.heap_size

  abbrev ss : ℕ
  ss = m.stack_start

  abbrev sz : ℕ
  sz = m.stack_size

  abbrev H : Rules
  H = heap_rules G hs hz

  abbrev K : Rules
  K = stack_rules ss sz

  heaps : Sound H
  heaps = heap-sound G some hs hz

  stacks : Sound K
  stacks = stack-sound ss sz

  separate : Separate H K
  separate =
      ranges-separate H K hs hz ss sz (heap-ranged G some hs hz g.heap_start_whole g.heap_size_whole) (stack-ranged ss sz) g.no_share

  pub map-sound : Sound (map_rules m)
  map-sound = join-sound H K heaps stacks separate

  -- the stack's blocks among all, by positions
  pub stack-placed : (bs : List Block) → Placed (map_rules m) 0 bs
      → Placed (stack_rules 0 m.stack_size) 0 (downs m.stack_start (only (stack_rules m.stack_start m.stack_size).inside bs))
  stack-placed bs P =
      let z : 0 - ss ≡ 0 = omega arith in
      rw z at (lift-placed ss K (stack_rules 0 sz) stacks (stack-shifted ss sz) (only K.inside bs) 0
      (only-placed (map_rules m) K map-sound (part-b H K heaps stacks separate) bs 0 P))

  pub shadow-images : Images (map_rules m) (shadow_ops m) (image m)
  shadow-images =
      join-images H K heaps stacks separate (lift_ops hs (heap_ops W G hz)) (lift_ops ss (stack_ops sz)) (λ bs. heap_image W G hz (downs hs bs))
      (λ bs. stack_image sz (downs ss bs))
      (lift-images hs H (heap_rules G 0 hz) heaps (heap-shifted G hs hz g.heap_start_whole) (heap_ops W G hz) (heap_image W G hz)
      (heap-images W G hz m.wide m.two (number-holds m hz g.heap_most) g.heap_size_whole))
      (lift-images ss K (stack_rules 0 sz) stacks (stack-shifted ss sz) (stack_ops sz) (stack_image sz) (stack-images sz (omega (arith, g.stack_most))))

  pub shadow-scanned : Scanned (map_rules m) (shadow_ops m) (image m) (Fit m)
  shadow-scanned =
      join-scanned H K heaps stacks separate (lift_ops hs (heap_ops W G hz)) (lift_ops ss (stack_ops sz)) (λ bs. heap_image W G hz (downs hs bs))
      (λ bs. stack_image sz (downs ss bs)) (λ h. length h ≡ hz) (λ s. (length s.0 ≡ sz) × (length s.1 ≡ sz))
      (lift-scanned hs H (heap_rules G 0 hz) (heap-shifted G hs hz g.heap_start_whole) (heap-unshifted G hs hz g.heap_start_whole) (heap_ops W G hz)
      (heap_image W G hz) (λ h. length h ≡ hz) (heap-scanned W G hz m.wide m.two (number-holds m hz g.heap_most) g.heap_size_whole))
      (lift-scanned ss K (stack_rules 0 sz) (stack-shifted ss sz) (stack-unshifted ss sz) (stack_ops sz) (stack_image sz)
      (λ s. (length s.0 ≡ sz) × (length s.1 ≡ sz)) (stack-scanned sz (omega (arith, g.stack_most))))

  -- and a block that begins on any shadows of the right lengths is read, and marked, as one that begins on an image
  pub shadow-stamped : Stamped (map_rules m) (shadow_ops m) (Fit m)
  shadow-stamped =
      join-stamped H K heaps stacks separate (lift_ops hs (heap_ops W G hz)) (lift_ops ss (stack_ops sz)) (λ h. length h ≡ hz)
      (λ s. (length s.0 ≡ sz) × (length s.1 ≡ sz))
      (lift-stamped hs H (heap_rules G 0 hz) (heap-shifted G hs hz g.heap_start_whole) (heap_ops W G hz) (λ h. length h ≡ hz)
      (heap-stamped W G hz m.wide m.two (number-holds m hz g.heap_most) g.heap_size_whole))
      (lift-stamped ss K (stack_rules 0 sz) (stack-shifted ss sz) (stack_ops sz) (λ s. (length s.0 ≡ sz) × (length s.1 ≡ sz))
      (stack-stamped sz (omega (arith, g.stack_most))))
