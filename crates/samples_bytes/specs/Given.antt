-- The shadow bytes that a sample gives. Where text is malformed, what was stored before it stays. Assumes nothing.
use Rattle.std.specs.Prelude.{Bool, true, false, cond, List, [], ◌∷◌, Option, Some, None, ℕ, zero, suc, ◌+◌, ◌-◌, length, set, ltb, eqb}
use Rattle.std.specs.Option.{option_or}
use Rattle.samples_text.specs.Text.{skip_spaces, after_byte, after_word, number_at, by_number, by_place}

-- the place after stored bytes, and the shadow then
pub data Stored : Type 0 where
  stored : Option ℕ → (shadow : List ℕ) → Stored

-- numbers below 256 with commas between, n at most, stored from position q on
unfoldable pub store_bytes : (n : ℕ) → (line : List ℕ) → (p q : ℕ) → (shadow : List ℕ) → Stored
store_bytes zero line p q h = stored None h
store_bytes (suc n) line p q h =
    by_number (number_at line p) (stored None h)
    (λ v e. cond (ltb 255 v) (stored None h)
    (by_place (after_byte line e 44) (stored (Some e) (set h q v)) (λ next. store_bytes n line next (q + 1) (set h q v))))

-- a position, an equals sign, and the bytes that stand there
unfoldable pub store_at : (line : List ℕ) → (p : ℕ) → (shadow : List ℕ) → Stored
store_at line p h =
    by_number (number_at line p) (stored None h)
    (λ q e. by_place (after_byte line e 61) (stored None h) (λ start. store_bytes (length h - q) line start q h))

abbrev pub end_of : Stored → Option ℕ
end_of (stored r h) = r

abbrev pub shadow_of : Stored → List ℕ
shadow_of (stored r h) = h

-- the bytes of the shadow of this name
unfoldable pub store_named : (line : List ℕ) → (p : ℕ) → (name shadow : List ℕ) → Stored
store_named line p name h = by_place (after_word line p name) (stored None h) (λ e. store_at line e h)

-- heap@, pri@ and sec@
abbrev pub heap_name : List ℕ
heap_name = 104 ∷ 101 ∷ 97 ∷ 112 ∷ 64 ∷ []

abbrev pub primary_name : List ℕ
primary_name = 112 ∷ 114 ∷ 105 ∷ 64 ∷ []

abbrev pub secondary_name : List ℕ
secondary_name = 115 ∷ 101 ∷ 99 ∷ 64 ∷ []

-- the place after the bytes, and the three shadows then
pub data Reached : Type 0 where
  reached : Option ℕ → (heap primary secondary : List ℕ) → Reached

-- no more than one of them is stored
abbrev pub reached_by : (heap primary secondary : Stored) → Reached
reached_by h p s = reached (option_or (option_or (end_of h) (end_of p)) (end_of s)) (shadow_of h) (shadow_of p) (shadow_of s)

-- the bytes of whichever shadow's name stands there
unfoldable pub store_any : (line : List ℕ) → (p : ℕ) → (heap primary secondary : List ℕ) → Reached
store_any line p heap primary secondary =
    reached_by (store_named line p heap_name heap) (store_named line p primary_name primary) (store_named line p secondary_name secondary)

-- the place after the colon, and the three shadows then
pub data Given : Type 0 where
  given : Option ℕ → (heap primary secondary : List ℕ) → Given

-- whether the colon was found
abbrev pub is_given : Given → Bool
is_given (given None h q s) = false
is_given (given (Some c) h q s) = true

abbrev pub by_reached : {A : Type 0} → Reached → (Option ℕ → (heap primary secondary : List ℕ) → A) → A
by_reached (reached r a b c) f = f r a b c

-- groups of bytes, n at most, each after spaces, and the colon that ends them
unfoldable pub store_all : (n : ℕ) → (line : List ℕ) → (p : ℕ) → (heap primary secondary : List ℕ) → Given
store_all zero line p h q s = given None h q s
store_all (suc n) line p h q s =
    by_place (after_byte line (skip_spaces line p) 58)
    (cond (eqb (skip_spaces line p) p) (given None h q s)
    (by_reached (store_any line (skip_spaces line p) h q s)
    (λ r h' q' s'. by_place r (given None h' q' s') (λ e. store_all n line e h' q' s'))))
    (λ call. given (Some call) h q s)
