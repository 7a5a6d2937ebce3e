-- The lines are those that the programs are proved against. Assumes nothing.
use mathlib.Core.Path.{◌≡◌, refl}
use mathlib.Core.List.{List, [], ◌∷◌, ◌++◌, append_assoc}
use Prim.Native.Nat.{ℕ, zero, suc, ◌/◌}
use native.Mathlib.Omega.{arith}
use lib.ListN.{take}
use borrow.Author.Tests.{ne_eqb}
use Rattle.types.specs.Call.{Answer, answer}
use Rattle.calls_format.specs.Lines as lines
use Rattle.calls_format.specs.Lines.{digits, spaced, answer_fields}
use Rattle.specification_programs.specs.Lines.{last_digits, line_of, line}

pub digits_same : (n v : ℕ) → last_digits n v ≡ digits n v
unfolding last_digits digits
digits_same zero v = refl
digits_same (suc n) v = rw (digits_same n (v / 10))

line-of : (k : ℕ) (vs : List ℕ) → line_of (k ∷ vs) ≡ lines.decimal k ++ (spaced vs ++ (10 ∷ []))
unfolding line_of spaced
line-of k [] = rw (digits_same (suc k) k)
line-of k (v ∷ vs) = rw (digits_same (suc k) k, line-of v vs, append_assoc (lines.decimal v) (spaced vs) (10 ∷ []))

pub line_same : (k n : ℕ) (r : Answer) → answer_fields k ≡ n → line k n r ≡ lines.line k r
unfolding lines.line
line_same k n (answer zero a b c d) e = rw e (line-of k (0 ∷ take n (a ∷ b ∷ c ∷ d ∷ [])))
line_same k n (answer (suc r) a b c d) e = rw (ne_eqb (suc r) 0 (omega arith)) (line-of k (suc r ∷ []))
