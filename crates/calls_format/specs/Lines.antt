-- The lines that the calls program writes. Assumes nothing.
use Rattle.std.specs.Prelude.{cond, List, [], ◌∷◌, ◌++◌, ℕ, zero, suc, ◌+◌, ◌/◌, ◌%◌, ltb, eqb, take}
use Rattle.plain.specs.Call.{Answer, answer}

-- the decimal digits of v, at most n of them, as text
unfoldable pub digits : (n v : ℕ) → List ℕ
digits zero v = []
digits (suc n) v = cond (ltb v 10) ((48 + v) ∷ []) (digits n (v / 10) ++ ((48 + v % 10) ∷ []))

-- all of them: v has no more digits than v + 1
abbrev pub decimal : ℕ → List ℕ
decimal v = digits (suc v) v

-- each number after a space
unfoldable pub spaced : List ℕ → List ℕ
spaced [] = []
spaced (v ∷ vs) = 32 ∷ (decimal v ++ spaced vs)

-- how many answer fields a kind has; 13 is of the form with origins
unfoldable pub answer_fields : (kind : ℕ) → ℕ
answer_fields k = cond (eqb k 5) 4 (cond (eqb k 6) 1 (cond (eqb k 7) 1 (cond (eqb k 8) 2 (cond (eqb k 9) 4 (cond (eqb k 13) 1 (cond (eqb k 15) 1 0))))))

-- kind, number and, if accepted, the answer fields in their order
unfoldable pub line : (kind : ℕ) → Answer → List ℕ
line k (answer n a b c d) =
    decimal k ++ (spaced (n ∷ cond (eqb n 0) (take (answer_fields k) (a ∷ b ∷ c ∷ d ∷ [])) []) ++ (10 ∷ []))
