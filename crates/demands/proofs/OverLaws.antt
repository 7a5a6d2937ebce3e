-- A part of a list written over, read at any place. Assumes nothing.
use mathlib.Core.Path.{◌≡◌, sym, ◌∙◌}
use mathlib.Core.Bool.{cond}
use mathlib.Core.List.{List}
use Prim.Native.Nat.{ℕ, ◌+◌, ◌≤◌, ◌<◌}
use lib.ListN.{length, get_or-eq_default}
use lib.Dec.{ltb}
use borrow.Author.Tests.{ltb-true, ltb-false}
use Rattle.number.specs.Parts.{at, in_part, over}
use Rattle.number.proofs.TestLaws.{Test, is_true, is_false, test, in-facts}
use Rattle.number.proofs.PartLaws.{at-over, at-tab-out}

-- f written over a part, at every place, where f is 0 in what of the part lies past the end
pub at-written : (a n : ℕ) (f : ℕ → ℕ) (h : List ℕ) → ((q : ℕ) → length h ≤ q → q < a + n → f q ≡ 0) → (q : ℕ)
    → at (over a n f h) q ≡ cond (in_part a n q) (f q) (at h q)
unfolding over
at-written a n f h z q = go (test (ltb q (length h))) (test (in_part a n q))
  where
    go : Test (ltb q (length h)) → Test (in_part a n q) → at (over a n f h) q ≡ cond (in_part a n q) (f q) (at h q)
    go (is_true t) p = at-over a n f h q (ltb-true q (length h) t)
    go (is_false t) (is_true p) =
        let k = ltb-false q (length h) t in
        at-tab-out (length h) q _ k ∙ rw p (sym (z q k (in-facts a (a + n) q p).1))
    go (is_false t) (is_false p) =
        let k = ltb-false q (length h) t in
        at-tab-out (length h) q _ k ∙ rw p (sym (get_or-eq_default h 0 k))
