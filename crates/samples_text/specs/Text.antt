-- What a line says at a place: gaps, words and numbers. Assumes nothing.
use Rattle.std.specs.Prelude.{Bool, true, false, cond, ◌&&◌, ◌||◌, List, [], ◌∷◌, Option, Some, None, ℕ, suc, ◌+◌, ◌*◌, ◌-◌, length, drop, leb, ltb, eqb}
use Rattle.number.specs.Parts.{at}

-- how many of the first bytes are spaces or another byte
unfoldable pub leading : (other : ℕ) → (text : List ℕ) → ℕ
leading other [] = 0
leading other (b ∷ bs) = cond (eqb b 32 || eqb b other) (suc (leading other bs)) 0

-- the place after the spaces and other bytes that stand at place p
unfoldable pub skip_from : (other : ℕ) → (line : List ℕ) → (p : ℕ) → ℕ
skip_from other line p = p + leading other (drop p line)

abbrev pub skip_spaces : (line : List ℕ) → (p : ℕ) → ℕ
skip_spaces line p = skip_from 32 line p

-- the line ends at p, or this byte stands there
unfoldable pub ends_by : (byte : ℕ) → (line : List ℕ) → (p : ℕ) → Bool
ends_by byte line p = leb (length line) p || eqb (at line p) byte

-- nothing but spaces, and then a semicolon or the line's end
abbrev pub gap_at : (line : List ℕ) → (p : ℕ) → Bool
gap_at line p = ends_by 59 line (skip_spaces line p)

-- nothing but spaces
abbrev pub end_at : (line : List ℕ) → (p : ℕ) → Bool
end_at line p = leb (length line) (skip_spaces line p)

-- an empty line, or one that begins with a number sign
abbrev pub is_remark : (line : List ℕ) → Bool
is_remark line = ends_by 35 line 0

-- what follows where nothing was found, and at the place after what was
abbrev pub by_place : {A : Type 0} → Option ℕ → A → ((end : ℕ) → A) → A
by_place None m f = m
by_place (Some e) m f = f e

-- the place after a byte, where it is the one at p
unfoldable pub after_byte : (line : List ℕ) → (p byte : ℕ) → Option ℕ
after_byte line p byte = cond (ltb p (length line) && eqb (at line p) byte) (Some (p + 1)) None

-- the text begins with this word
unfoldable pub begins : (word text : List ℕ) → Bool
begins [] text = true
begins (w ∷ ws) [] = false
begins (w ∷ ws) (b ∷ bs) = eqb b w && begins ws bs

-- the place after a word, where it stands at p
unfoldable pub after_word : (line : List ℕ) → (p : ℕ) → (word : List ℕ) → Option ℕ
after_word line p word = cond (begins word (drop p line)) (Some (p + length word)) None

-- the same for a word that ends there: a space or the line's end follows
unfoldable pub after_name : (line : List ℕ) → (p : ℕ) → (name : List ℕ) → Option ℕ
after_name line p name = by_place (after_word line p name) None (λ e. cond (ends_by 32 line e) (Some e) None)

abbrev pub is_digit : (byte : ℕ) → Bool
is_digit b = leb 48 b && leb b 57

-- the decimal digits that the text begins with
unfoldable pub digits : (text : List ℕ) → List ℕ
digits [] = []
digits (b ∷ bs) = cond (is_digit b) (b ∷ digits bs) []

-- the number whose digits are those of v and then these
unfoldable pub value_from : (v : ℕ) → List ℕ → ℕ
value_from v [] = v
value_from v (b ∷ bs) = value_from (10 * v + (b - 48)) bs

-- a number that stands between two places; none where they are one
unfoldable pub between : (v start end : ℕ) → Option (ℕ × ℕ)
between v start end = cond (eqb start end) None (Some (v, end))

-- the decimal number at place p, and the place after its last digit; none where it has more than 64 bits
unfoldable pub long_at : (line : List ℕ) → (p : ℕ) → Option (ℕ × ℕ)
long_at line p =
    cond (ltb 18446744073709551615 (value_from 0 (digits (drop p line)))) None
    (between (value_from 0 (digits (drop p line))) p (p + length (digits (drop p line))))

-- what follows where no number stands, and where one does, with the place after it
abbrev pub by_number : {A : Type 0} → Option (ℕ × ℕ) → A → ((v end : ℕ) → A) → A
by_number None m f = m
by_number (Some n) m f = f n.0 n.1

-- the same number; none where it has more than 32 bits
abbrev pub short : Option (ℕ × ℕ) → Option (ℕ × ℕ)
short n = by_number n None (λ v e. cond (ltb 4294967295 v) None (Some (v, e)))

unfoldable pub number_at : (line : List ℕ) → (p : ℕ) → Option (ℕ × ℕ)
number_at line p = short (long_at line p)
