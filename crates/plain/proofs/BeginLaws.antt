-- On the image of a placed list a block begins as it does on the list. Assumes nothing.
use mathlib.Core.Path.{◌≡◌, refl}
use mathlib.Core.Bool.{true, false, cond, not, ◌&&◌}
use mathlib.Core.List.{List}
use mathlib.Core.Logic.{◌≢◌}
use Prim.Native.Nat.{ℕ}
use native.Mathlib.Omega.{arith}
use lib.Dec.{eqb}
use lib.ListN.{length-replicate}
use borrow.Author.Tests.{eqb-false}
use Rattle.number.proofs.TestLaws.{Test, is_true, is_false, test, and-true}
use Rattle.types.specs.declared.Beginning.{Beginning}
use Rattle.plain.specs.Block.{Block, len, starts_written, starts_literal, begun}
use Rattle.plain.specs.Blocks.{any, insert}
use Rattle.plain.specs.Rules.{Rules, Placed, meets}
use Rattle.plain.specs.Ops.{Ops}
use Rattle.plain.specs.Images.{Images}
use Rattle.plain.specs.Call.{begin, Answer, done, unless, allows}
use Rattle.plain.specs.PlainList.{plain_step}
use Rattle.plain.specs.ShadowCalls.{shadow_step}

module _ {S : Type 0} (R : Rules) (O : Ops S) (image : List Block → S) (I : Images R O image) (bs : List Block) (P : Placed R 0 bs) where
  abbrev both : List Block × Answer → S × Answer
  both r = (image r.0, r.1)

  pub begin-same : (h : Beginning) (b l : ℕ) → shadow_step R O (begin h b l) (image bs) ≡ (image (plain_step R (begin h b l) bs).0, (plain_step R (begin h b l) bs).1)
  unfolding shadow_step plain_step
  begin-same h b l = go (test (eqb l 0)) (test (allows R h b l)) (test (R.aligned b))
    where
      ln : len (begun h b l) ≡ l
      ln = length-replicate l (starts_written h)

      last : l ≢ 0 → R.fits b l ≡ true → R.aligned b ≡ true → Test (any (meets R b l) bs)
          → unless (cond (not (O.vacant (image bs) b l)) 6 0) (image bs) (O.stamp (image bs) (begun h b l), done)
          ≡ both (unless (cond (any (meets R b l) bs) 6 0) bs (insert (begun h b l) bs, done))
      last n f a (is_true m) = rw (I.image_vacant bs P b l (omega arith) f a, m)
      last n f a (is_false m) =
          rw (
            I.image_vacant bs P b l (omega arith) f a,
            m,
            I.image_stamp bs P (begun h b l) (rw ln (omega arith)) (rw ln f) a (rw ln m),
          )

      go : Test (eqb l 0) → Test (allows R h b l) → Test (R.aligned b)
          → unless (cond (eqb l 0) 3 (cond (not (allows R h b l)) 4 (cond (not (R.aligned b)) 5 (cond (not (O.vacant (image bs) b l)) 6 0)))) (image bs)
          (O.stamp (image bs) (begun h b l), done)
          ≡ both (unless (cond (eqb l 0) 3 (cond (not (allows R h b l)) 4 (cond (not (R.aligned b)) 5 (cond (any (meets R b l) bs) 6 0)))) bs
          (insert (begun h b l) bs, done))
      go (is_true n) f a = rw n
      go (is_false n) (is_false f) a = rw (n, f)
      go (is_false n) (is_true f) (is_false a) = rw (n, f, a)
      go (is_false n) (is_true f) (is_true a) =
          rw (n, f, a)
          (last (eqb-false l 0 n) (and-true (R.fits b l) (not (starts_literal h && R.heap b)) f).0 a (test (any (meets R b l) bs)))
