-- A line read byte by byte. Assumes nothing.
use mathlib.Core.Path.{◌≡◌}
use mathlib.Core.List.{List, [], ◌∷◌, ◌++◌}
use mathlib.Core.Logic.{◌≢◌}
use Prim.Native.Nat.{ℕ, ◌+◌, ◌≤◌, ◌<◌}
use native.Mathlib.Numerals.{add-one}
use lib.ListN.{length, take, set}
use lib.Seq.{take_all, take-suc-set}
use lib.Dec.{eqb}
use borrow.Author.Tests.{ne_eqb}
use Rattle.std.specs.Prelude.{Option, Some, None}
use Rattle.number.proofs.TestLaws.{Test, is_true, is_false, test}
use Rattle.samples_input.specs.declared.Line.{Line}
use Rattle.samples_input.specs.declared.Line.TheVariants as line
use Rattle.samples_input.specs.Input.{NoEnd, IsLine, last_line}

also : (xs : List ℕ) (b : ℕ) → NoEnd xs → b ≢ 10 → NoEnd (xs ++ (b ∷ []))
also [] b h d = (d, tt)
also (x ∷ xs) b h d = (h.0, also xs b h.1 d)

-- one byte more
pub one_more : (l : List ℕ) (n b : ℕ) → n < length l → b ≢ 10 → NoEnd (take n l) → NoEnd (take (n + 1) (set l n b))
one_more l n b k d h = rw (add-one n, take-suc-set l n b k) (also (take n l) b h d)

-- all of the buffer
pub all_read : (l : List ℕ) (n : ℕ) → length l ≤ n → NoEnd (take n l) → NoEnd l
all_read l n k h = rw (take_all n l k) at h

pub last_none : (n : ℕ) → n ≡ 0 → None ≡ last_line n
last_none n e = rw e

pub last_some : (n : ℕ) → n ≢ 0 → Some (line.Whole n) ≡ last_line n
last_some n d = rw (ne_eqb n 0 d)

pub last-is : (l : List ℕ) (n size : ℕ) (r : Option Line) → r ≡ last_line n → n < size → NoEnd (take n l) → IsLine size l r
last-is l n size r e k h = rw e (go (test (eqb n 0)))
  where
    go : Test (eqb n 0) → IsLine size l (last_line n)
    go (is_true t) = rw t tt
    go (is_false t) = rw t (k, h)
