-- The stack layout meets the laws of images, and an audit accepts nothing but images. Assumes nothing.
use mathlib.Core.Path.{◌≡◌, refl}
use mathlib.Core.Bool.{false, not}
use mathlib.Core.List.{List, []}
use mathlib.Core.Option.{some}
use Prim.Native.Nat.{ℕ, ◌^◌, ◌≤◌, ◌<◌}
use native.Mathlib.Omega.{arith}
use lib.ListN.{length}
use Rattle.number.specs.Parts.{at, tab}
use Rattle.number.proofs.PartLaws.{tab-zero, is-tab}
use Rattle.plain.specs.Block.{Block}
use Rattle.plain.specs.Blocks.{any}
use Rattle.plain.specs.Rules.{Rules, meets, Placed}
use Rattle.plain.specs.Areas.{stack_rules}
use Rattle.plain.specs.Layer.{layer}
use Rattle.plain.specs.Reading.{Tally, lookup, tally_of}
use Rattle.plain.specs.Found.{Found, bad, got, totals}
use Rattle.plain.specs.Images.{Images, Scanned}
use Rattle.plain.proofs.AreaLaws.{stack-ranged}
use Rattle.stack_layout.specs.Image.{primary_own, secondary_own, primary_byte, secondary_byte, stack_image}
use Rattle.stack_layout.specs.Walk.{stack_walk}
use Rattle.stack_layout.specs.Ops.{StackShadows, stack_vacant, stack_ops}
use Rattle.stack_layout.proofs.ImageLaws.{at-image, read-image, vacant-image}
use Rattle.stack_layout.proofs.ChangeLaws.{stamp-image, erase-image, mark-image, marked-image}
use Rattle.stack_layout.proofs.WalkLaws.{walk-sound, walk-full}

module _ (size : ℕ) (small : size < 256 ^ 4) where
  abbrev R : Rules
  R = stack_rules 0 size

  nil : stack_image size [] ≡ (stack_ops size).cleared
  unfolding stack_image layer
  nil = rw (tab-zero size 0 (λ q. 0) (λ q. refl))

  module _ (bs : List Block) (P : Placed R 0 bs) where
    reads : (a : ℕ) → (stack_ops size).read (stack_image size bs) a ≡ lookup bs a
    unfolding stack_image
    reads a = rw (at-image size bs P primary_own, at-image size bs P secondary_own) (read-image size bs P small a)

    vacant : (b l : ℕ) → 1 ≤ l → stack_vacant (stack_image size bs) b l ≡ not (any (meets R b l) bs)
    unfolding stack_image stack_vacant
    vacant b l n = rw (at-image size bs P primary_own, at-image size bs P secondary_own) (vacant-image size bs P b l n)

    audits : (stack_ops size).audit (stack_image size bs) ≡ some (tally_of R bs)
    unfolding stack_image
    audits = rw (at-image size bs P primary_own, at-image size bs P secondary_own, walk-full size small bs P)

  pub stack-images : Images (stack_rules 0 size) (stack_ops size) (stack_image size)
  stack-images =
      record {
        image_nil = nil;
        image_read = λ bs P a i. reads bs P a;
        image_vacant = λ bs P b l n f al. vacant bs P b l n;
        image_stamp = λ bs P b n f al m. stamp-image size bs P b n f m;
        image_erase = λ bs P x b i e. erase-image size bs P x b e;
        image_mark = λ bs P a b i e. mark-image size bs P a b e (omega (arith, (stack-ranged 0 size).r-inside a i));
        image_marked = λ bs P a b i e. marked-image size bs P a b e;
        image_audit = audits;
        image_gaps = λ bs P. refl;
      }

  pub stack-scanned : Scanned (stack_rules 0 size) (stack_ops size) (stack_image size) (λ s. (length s.0 ≡ size) × (length s.1 ≡ size))
  unfolding stack_image
  stack-scanned = record { scanned = λ s t l e. go s.0 s.1 t l (stack_walk size (at s.0) (at s.1) size 0 0 0 false) refl e }
    where
      go : (x y : List ℕ) (t : Tally) → (length x ≡ size) × (length y ≡ size) → (r : Found)
          → stack_walk size (at x) (at y) size 0 0 0 false ≡ r → totals R r ≡ some t
          → (bs : List Block) × Placed R 0 bs × ◌≡◌ {A = StackShadows} (x, y) (tab 0 size (primary_byte bs), tab 0 size (secondary_byte bs))
      go x y t l bad w e = absurd (let z : ◌≡◌ {A = ℕ} 0 1 = cc in omega arith)
      go x y t l (got ms bs) w e =
          let k = walk-sound size (at x) (at y) ms bs w in (
            bs,
            k.0,
            rw (← (is-tab size x (primary_byte bs) l.0 (λ q h. (k.1 q h).0)), ← (is-tab size y (secondary_byte bs) l.1 (λ q h. (k.1 q h).1))),
          )
