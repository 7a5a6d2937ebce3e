-- Parts of a list of bytes. Assumes nothing.
use Rattle.std.specs.Prelude.{Bool, true, cond, ◌&&◌, List, [], ◌∷◌, ℕ, zero, suc, ◌+◌, ◌%◌, length, get_or, leb, ltb, eqb}

-- the byte at place q, 0 past the end
abbrev pub at : List ℕ → ℕ → ℕ
at h q = get_or h q 0

-- f at n places from i on
unfoldable pub tab {ℓ} : {A : Type ℓ} → ℕ → ℕ → (ℕ → A) → List A
tab i zero f = []
tab i (suc n) f = f i ∷ tab (suc i) n f

-- the n bytes from place q on are zero, f the bytes
unfoldable pub zeros : (ℕ → ℕ) → ℕ → ℕ → Bool
zeros f q zero = true
zeros f q (suc n) = eqb (f q) 0 && zeros f (suc q) n

-- how many of the n places from q on pass the test, up to the first that does not
unfoldable pub run_of : (ℕ → Bool) → ℕ → ℕ → ℕ
run_of t q zero = 0
run_of t q (suc n) = cond (t q) (suc (run_of t (suc q) n)) 0

-- how many of the n bytes from place q on are odd, f the bytes
unfoldable pub odd_bytes : (ℕ → ℕ) → ℕ → ℕ → ℕ
odd_bytes f q zero = 0
odd_bytes f q (suc n) = f q % 2 + odd_bytes f (suc q) n

-- q is one of the n places from a on
abbrev pub in_part : (a n q : ℕ) → Bool
in_part a n q = leb a q && ltb q (a + n)

-- each of the n bytes from place a on becomes f of its place, every other byte stays
unfoldable pub over : (a n : ℕ) → (ℕ → ℕ) → List ℕ → List ℕ
over a n f h = tab 0 (length h) (λ q. cond (in_part a n q) (f q) (at h q))

-- each element is so
abbrev pub Each : {X : Type 0} → (X → Type 0) → List X → Type 0
Each p [] = Unit {0}
Each p (x ∷ xs) = p x × Each p xs
