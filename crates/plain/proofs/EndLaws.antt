-- On the image of a placed list, free and remove do what the plain list does. Assumes nothing.
use mathlib.Core.Path.{◌≡◌, refl, ap, ◌∙◌}
use mathlib.Core.Bool.{true, cond, not}
use mathlib.Core.List.{List}
use mathlib.Core.Option.{Option, none, some}
use Prim.Native.Nat.{ℕ, zero, suc, ◌-◌}
use native.Mathlib.Omega.{arith}
use lib.Dec.{eqb}
use borrow.Author.Tests.{eq-eqb, ne_eqb, eqb-true, eqb-false}
use Rattle.number.proofs.TestLaws.{Test, is_true, is_false, test}
use Rattle.plain.specs.Block.{Block, len, contains, has_base}
use Rattle.plain.specs.Blocks as blocks
use Rattle.plain.specs.Blocks.{find, found, any}
use Rattle.plain.specs.Rules.{Rules, Placed, Sound}
use Rattle.plain.specs.Reading.{Reading, says}
use Rattle.plain.specs.Ops.{Ops}
use Rattle.plain.specs.Images.{Images}
use Rattle.plain.specs.Call.{free, remove, Answer, done, first_of, unless}
use Rattle.plain.specs.PlainList.{plain_step}
use Rattle.plain.specs.ShadowCalls.{is_damaged, is_first, length_of, by_base, erased, shadow_step}
use Rattle.plain.proofs.BlockLaws.{contains-true, base-holds}
use Rattle.plain.proofs.FindLaws.{keep_if, find_at, find-facts}
use Rattle.plain.proofs.ReadBackLaws.{image-reads}

module _ {S : Type 0} (R : Rules) (G : Sound R) (O : Ops S) (image : List Block → S) (I : Images R O image) (bs : List Block) (P : Placed R 0 bs) where
  abbrev both : List Block × Answer → S × Answer
  both r = (image r.0, r.1)

  -- a block ends that is to have this base
  ends_same : (x : ℕ) → R.inside x ≡ true
      → unless (first_of (by_base R O (image bs) x)) (image bs) (erased R O (image bs) x, done) ≡ both (unless (cond (not (any (has_base x) bs)) 7 0) bs (blocks.remove x bs, done))
  ends_same x t = ap by (image-reads R G O image I bs P x) ∙ rw q (go (find (contains x) bs) refl)
    where
      by : Reading → S × Answer
      by r = unless (cond (is_damaged r) 8 (cond (not (is_first r)) 7 0)) (image bs) (O.erase (image bs) x (length_of r), done)

      q : find (has_base x) bs ≡ keep_if (has_base x) (find (contains x) bs)
      q = find_at R G bs 0 x (has_base x) P (λ c l w. base-holds x c l w)

      go : (o : Option Block) → find (contains x) bs ≡ o
          → by (says x o) ≡ both (unless (cond (not (found (keep_if (has_base x) o))) 7 0) bs (blocks.remove x bs, done))
      go none e = refl
      go (some b) e = at_block (test (has_base x b))
        where
          at_block : Test (has_base x b)
              → unless (cond (not (eqb (x - b.base) 0)) 7 0) (image bs) (O.erase (image bs) x (len b), done)
              ≡ both (unless (cond (not (found (cond (has_base x b) (some b) none))) 7 0) bs (blocks.remove x bs, done))
          at_block (is_true h) =
              let z : b.base ≡ x = eqb-true b.base x h in
              rw (h, eq-eqb (x - b.base) 0 (omega arith), I.image_erase bs P x b t (q ∙ rw (e, h)))
          at_block (is_false h) = rw (h, ne_eqb (x - b.base) 0 (λ z. eqb-false b.base x h (omega (arith, contains-true x b (find-facts R G bs 0 (contains x) b P e).so))))

  pub free-same : (x : ℕ) → shadow_step R O (free x) (image bs) ≡ both (plain_step R (free x) bs)
  unfolding shadow_step plain_step
  free-same zero = refl
  free-same (suc y) = go (test (R.inside (suc y))) (test (R.heap (suc y)))
    where
      go : Test (R.inside (suc y)) → Test (R.heap (suc y)) → shadow_step R O (free (suc y)) (image bs) ≡ both (plain_step R (free (suc y)) bs)
      go (is_false t) h = rw t
      go (is_true t) (is_false h) = rw (t, h)
      go (is_true t) (is_true h) = rw (t, h) (ends_same (suc y) t)

  pub remove-same : (x : ℕ) → shadow_step R O (remove x) (image bs) ≡ both (plain_step R (remove x) bs)
  unfolding shadow_step plain_step
  remove-same x = go (test (R.inside x)) (test (R.heap x))
    where
      go : Test (R.inside x) → Test (R.heap x) → shadow_step R O (remove x) (image bs) ≡ both (plain_step R (remove x) bs)
      go (is_false t) h = rw t
      go (is_true t) (is_true h) = rw (t, h)
      go (is_true t) (is_false h) = rw (t, h) (ends_same x t)
