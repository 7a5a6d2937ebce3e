-- Document 01, the calls program: the lines of its output. Text is a list of bytes. Assumes nothing.
use Rattle.std.specs.Prelude.{cond, List, [], ◌∷◌, ◌++◌, ℕ, zero, suc, ◌+◌, ◌/◌, ◌%◌, ltb, take}
use Rattle.types.specs.Call.{Answer, answer}

abbrev pub space : ℕ
space = 32

abbrev pub newline : ℕ
newline = 10

-- a digit, 0 to 9
abbrev pub digit : ℕ → ℕ
digit v = 48 + v

-- the decimal digits of v, at most n of them: the last ones
unfoldable pub last_digits : (n v : ℕ) → List ℕ
last_digits zero v = []
last_digits (suc n) v = cond (ltb v 10) (digit v ∷ []) (last_digits n (v / 10) ++ (digit (v % 10) ∷ []))

-- all of them: a number has one digit at least, and no more digits than v + 1
abbrev pub decimal : ℕ → List ℕ
decimal v = last_digits (suc v) v

-- numbers with one space between two, and the line's end
unfoldable pub line_of : List ℕ → List ℕ
line_of [] = newline ∷ []
line_of (v ∷ []) = decimal v ++ (newline ∷ [])
line_of (v ∷ (w ∷ ws)) = decimal v ++ (space ∷ line_of (w ∷ ws))

-- kind and number, and, where accepted, as many answer fields as the kind has
abbrev pub line : (kind answers : ℕ) → Answer → List ℕ
line k n (answer zero a b c d) = line_of (k ∷ 0 ∷ take n (a ∷ b ∷ c ∷ d ∷ []))
line k n (answer (suc r) a b c d) = line_of (k ∷ suc r ∷ [])

-- the line of an undecodable record
abbrev pub nine : List ℕ
nine = line_of (9 ∷ [])
