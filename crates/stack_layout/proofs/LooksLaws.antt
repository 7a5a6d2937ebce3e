-- A reading rests on nine shadow bytes at most. Assumes nothing.
use mathlib.Core.Path.{◌≡◌}
use mathlib.Core.Bool.{Bool, true, false, cond, ◌&&◌}
use mathlib.Core.List.{[], ◌∷◌}
use Prim.Native.Nat.{ℕ, ◌+◌, ◌-◌, ◌/◌, ◌%◌, ◌≤◌, ◌<◌}
use native.Mathlib.Omega.{arith}
use lib.ListN.{length}
use lib.Dec.{leb}
use borrow.Author.Tests.{le-ltb, lt-ltb, leb-true, leb-false}
use Rattle.number.specs.Parts.{tab, Each}
use Rattle.number.proofs.TestLaws.{Test, is_true, is_false, test}
use Rattle.number.proofs.LittleLaws.{word_same}
use Rattle.number.proofs.PartLaws.{length-tab, each-tab}
use Rattle.stack_layout.specs.Reading.{long_reading, code_reading, stack_reading, Place, primary, secondary, stack_looks}

-- the places are nine at most
pub looks-nine : (pr : ℕ → ℕ) (p : ℕ) → length (stack_looks pr p) ≤ 9
unfolding stack_looks
looks-nine pr p = go (leb 48 (pr p / 4) && leb (pr p / 4) 62)
  where
    go : (t : Bool) → length (primary p ∷ cond t (tab (p - (pr p / 4 - 48)) 8 secondary) []) ≤ 9
    go true = omega (arith, length-tab (p - (pr p / 4 - 48)) 8 secondary)
    go false = omega arith

-- the byte at a place, of these primary and secondary bytes
abbrev pub byte_at : (pr se : ℕ → ℕ) → Place → ℕ
byte_at pr se (primary q) = pr q
byte_at pr se (secondary q) = se q

-- both have the same byte at a place
abbrev pub Agree : (pr se pr' se' : ℕ → ℕ) → Place → Type 0
Agree pr se pr' se' x = byte_at pr' se' x ≡ byte_at pr se x

module _ (size : ℕ) (pr se pr' se' : ℕ → ℕ) where
  long_same : (p j m : ℕ) → Each (Agree pr se pr' se') (tab (p - j) 8 secondary) → long_reading size se' p j m ≡ long_reading size se p j m
  unfolding long_reading
  long_same p j m a =
      let r : (i : ℕ) → i < 8 → se' (p - j + i) ≡ se (p - j + i) = λ i h. each-tab (Agree pr se pr' se') secondary (p - j) 8 i a h in
      rw (
        word_same se' se (p - j) (p - j) 4 (λ i h. r i (omega arith)),
        word_same se' se (p - j + 4) (p - j + 4) 4 (λ i h. let e : p - j + 4 + i ≡ p - j + (4 + i) = omega arith in rw e (r (4 + i) (omega arith))),
      )

  code_same : (p c m : ℕ) → Each (Agree pr se pr' se') (cond (leb 48 c && leb c 62) (tab (p - (c - 48)) 8 secondary) [])
      → code_reading size se' p c m ≡ code_reading size se p c m
  unfolding code_reading
  code_same p c m a = go (test (leb 48 c)) (test (leb c 62))
    where
      go : Test (leb 48 c) → Test (leb c 62) → code_reading size se' p c m ≡ code_reading size se p c m
      go (is_true s) (is_true t) = rw (long_same p (c - 48) m (rw (s, t) at a))
      go (is_true s) (is_false t) = rw (le-ltb c 48 (leb-true 48 c s), lt-ltb 62 c (leb-false c 62 t))
      go (is_false s) t = rw (lt-ltb c 48 (leb-false 48 c s))

  -- nine bytes: bytes that agree at the places looked at give the same reading
  pub reading-same : (p : ℕ) → Each (Agree pr se pr' se') (stack_looks pr p) → stack_reading size pr' se' p ≡ stack_reading size pr se p
  unfolding stack_reading stack_looks
  reading-same p a = rw (a.0, code_same p (pr p / 4) (pr p % 4) a.1)

-- and the reading of both looks at the same places
pub looks-same : (pr se pr' se' : ℕ → ℕ) (p : ℕ) → Each (Agree pr se pr' se') (stack_looks pr p) → stack_looks pr' p ≡ stack_looks pr p
unfolding stack_looks
looks-same pr se pr' se' p a = rw a.0
