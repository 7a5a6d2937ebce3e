-- What it is for shadow states to be images of lists of blocks: the laws that every layout meets. Interface of the proofs: no demand rests
-- on it. Assumes nothing.
use Rattle.std.specs.Prelude.{◌≡◌, true, false, not, List, [], ℕ, ◌≤◌}
use Rattle.std.proofs.Math.Option.{some}
use Rattle.plain.specs.Block.{Block, len, contains, has_base, is_written}
use Rattle.plain.specs.Blocks.{find, any, insert, remove, mark_one}
use Rattle.plain.specs.Rules.{Rules, meets, Placed}
use Rattle.plain.specs.Reading.{Tally, lookup, tally_of}
use Rattle.plain.specs.Ops.{Ops}

-- on the image of a placed list each operation does what the list does
pub record Images (R : Rules) {S : Type 0} (O : Ops S) (image : List Block → S) : Type 0 where
  pub image_nil : image [] ≡ O.cleared
  pub image_read : (bs : List Block) → Placed R 0 bs → (a : ℕ) → R.inside a ≡ true → O.read (image bs) a ≡ lookup bs a
  pub image_vacant : (bs : List Block) → Placed R 0 bs → (b l : ℕ) → 1 ≤ l → R.fits b l ≡ true → R.aligned b ≡ true
      → O.vacant (image bs) b l ≡ not (any (meets R b l) bs)
  pub image_stamp : (bs : List Block) → Placed R 0 bs → (b : Block) → 1 ≤ len b → R.fits b.base (len b) ≡ true → R.aligned b.base ≡ true
      → any (meets R b.base (len b)) bs ≡ false → O.stamp (image bs) b ≡ image (insert b bs)
  pub image_erase : (bs : List Block) → Placed R 0 bs → (x : ℕ) (b : Block) → R.inside x ≡ true → find (has_base x) bs ≡ some b
      → O.erase (image bs) x (len b) ≡ image (remove x bs)
  pub image_mark : (bs : List Block) → Placed R 0 bs → (a : ℕ) (b : Block) → R.inside a ≡ true → find (contains a) bs ≡ some b
      → O.mark (image bs) a ≡ image (mark_one a bs)
  pub image_marked : (bs : List Block) → Placed R 0 bs → (a : ℕ) (b : Block) → R.inside a ≡ true → find (contains a) bs ≡ some b
      → O.marked (image bs) a ≡ is_written b a
  pub image_audit : (bs : List Block) → Placed R 0 bs → O.audit (image bs) ≡ some (tally_of R bs)
  pub image_gaps : (bs : List Block) → Placed R 0 bs → O.gaps (image bs) ≡ R.gaps bs

-- the other way: a state of the right lengths that an audit accepts is the image of a placed list
pub record Scanned (R : Rules) {S : Type 0} (O : Ops S) (image : List Block → S) (Fit : S → Type 0) : Type 0 where
  pub scanned : (s : S) (t : Tally) → Fit s → O.audit s ≡ some t → (bs : List Block) × Placed R 0 bs × (s ≡ image bs)
