-- Files and what they print, as text (proofs/Samples.antt). Assumes nothing.
use Rattle.std.specs.Prelude.{◌≡◌, List, [], ◌∷◌, ◌++◌, ℕ, ◌+◌, ◌*◌, length, take, replicate}
use Rattle.number.specs.Little.{bytes_of}
use Rattle.specification.specs.Numbers.{tab}
use Rattle.specification_programs.specs.Text.{text}
use Rattle.specification_programs.specs.Programs.{output, plain_form, origins_form}

-- ---- records

unfoldable pub words : List ℕ → List ℕ
words [] = []
words (v ∷ vs) = bytes_of 4 v ++ words vs

-- a record with this length in its first bytes, whatever its fields
abbrev pub sized : (length kind : ℕ) → List ℕ → List ℕ
sized n k vs = bytes_of 2 n ++ (bytes_of 2 k ++ words vs)

-- one that says its own length
abbrev pub entry : (kind : ℕ) → List ℕ → List ℕ
entry k vs = sized (4 + 4 * length vs) k vs

-- ---- files

-- a map and a question
unfoldable pub small : List ℕ
small = entry 1 (8 ∷ 16 ∷ 24 ∷ 16 ∷ []) ++ entry 5 (25 ∷ [])

-- no map holds yet, nor after one that is refused: each call gets 1. The line of kind 9 is no `9`
unfoldable pub mapless : List ℕ
mapless = entry 5 (4113 ∷ []) ++ entry 9 [] ++ entry 8 (0 ∷ []) ++ entry 1 (8 ∷ 15 ∷ 24 ∷ 16 ∷ []) ++ entry 1 (8 ∷ 32776 ∷ 65536 ∷ 16 ∷ []) ++ entry 2 (16 ∷ 8 ∷ [])

-- each has more bytes after an undecodable record: of an unknown kind; longer than its kind; shorter, with the bytes of its kind's length; of a kind 256
-- too large
unfoldable pub unknown_file : List ℕ
unknown_file = small ++ entry 17 (25 ∷ []) ++ entry 5 (25 ∷ [])

unfoldable pub long_file : List ℕ
long_file = entry 1 (8 ∷ 16 ∷ 24 ∷ 16 ∷ 0 ∷ []) ++ small

unfoldable pub short_file : List ℕ
short_file = small ++ sized 8 4 (25 ∷ 1 ∷ []) ++ small

unfoldable pub wide_file : List ℕ
wide_file = small ++ entry 261 (25 ∷ []) ++ small

-- kind 11, which one program knows
unfoldable pub point_file : List ℕ
point_file = entry 11 (24 ∷ 24 ∷ []) ++ small

-- numbers of 1 to 5 digits
unfoldable pub low_file : List ℕ
low_file =
    entry 1 (4096 ∷ 256 ∷ 8192 ∷ 32 ∷ []) ++ entry 10 (4104 ∷ 200 ∷ []) ++ entry 5 (4104 ∷ []) ++ entry 5 (4113 ∷ []) ++ entry 5 (4203 ∷ [])
    ++ entry 1 (10000 ∷ 64 ∷ 20000 ∷ 32 ∷ []) ++ entry 2 (10008 ∷ 20 ∷ []) ++ entry 5 (10017 ∷ [])

-- of 6 digits, and of 10, the most that an answer has
unfoldable pub high_file : List ℕ
high_file =
    entry 1 (100000 ∷ 64 ∷ 200000 ∷ 32 ∷ []) ++ entry 2 (100008 ∷ 20 ∷ []) ++ entry 5 (100017 ∷ [])
    ++ entry 1 (4294967224 ∷ 64 ∷ 200000 ∷ 32 ∷ []) ++ entry 2 (4294967232 ∷ 56 ∷ []) ++ entry 5 (4294967287 ∷ []) ++ entry 5 (4294967295 ∷ [])

abbrev pub high_text : List ℕ
high_text = text "1 0\n2 0\n5 0 100008 20 9 0\n1 0\n2 0\n5 0 4294967232 56 55 0\n5 4\n"

-- a pointer into the block that holds it, a copy, and both questions; then another block of the same base
unfoldable pub pointers : List ℕ
pointers =
    entry 1 (8 ∷ 16 ∷ 24 ∷ 16 ∷ []) ++ entry 2 (24 ∷ 8 ∷ []) ++ entry 11 (24 ∷ 26 ∷ []) ++ entry 12 (28 ∷ 24 ∷ []) ++ entry 13 (28 ∷ 31 ∷ []) ++ entry 13 (28 ∷ 32 ∷ [])
    ++ entry 13 (26 ∷ 24 ∷ []) ++ entry 16 (24 ∷ []) ++ entry 2 (24 ∷ 8 ∷ []) ++ entry 13 (24 ∷ 24 ∷ [])

-- document 01's worked example
unfoldable pub worked : List ℕ
worked =
    entry 1 (4096 ∷ 64 ∷ 8192 ∷ 32 ∷ []) ++ entry 2 (4104 ∷ 20 ∷ []) ++ entry 4 (4108 ∷ 6 ∷ []) ++ entry 5 (4113 ∷ []) ++ entry 5 (4124 ∷ []) ++ entry 2 (4128 ∷ 4 ∷ [])
    ++ entry 2 (4136 ∷ 4 ∷ []) ++ entry 2 (8195 ∷ 11 ∷ []) ++ entry 5 (8205 ∷ []) ++ entry 6 (8200 ∷ 7 ∷ 8195 ∷ []) ++ entry 6 (8200 ∷ 6 ∷ 8195 ∷ []) ++ entry 8 (4105 ∷ [])
    ++ entry 9 [] ++ entry 3 (4105 ∷ []) ++ entry 3 (4104 ∷ [])

-- ---- what they print

-- the same by both programs
abbrev pub Both : (file printed : List ℕ) → Type 0
Both l t = (output plain_form l ≡ t) × (output origins_form l ≡ t)

-- what is printed of the first 0, 1, .. bytes of a file, to n - 1 bytes
abbrev pub beginnings : (List ℕ → List ℕ) → (n : ℕ) → List ℕ → List (List ℕ)
beginnings out n file = tab 0 n (λ i. out (take i file))

-- of `small`, cut after each byte: 9 wherever a record is cut, also after one to three bytes of it
abbrev pub cut_text : List (List ℕ)
cut_text = [] ∷ (replicate 19 (text "9\n") ++ (text "1 0\n" ∷ (replicate 7 (text "1 0\n9\n") ++ (text "1 0\n5 7\n" ∷ []))))

abbrev pub SamplesHold : Type 0
SamplesHold =
    Both [] []
    × Both mapless (text "5 1\n9 1\n8 1\n1 1\n1 10\n2 1\n")
    × (beginnings (output plain_form) 29 small ≡ cut_text)
    × (beginnings (output origins_form) 29 small ≡ cut_text)
    × Both unknown_file (text "1 0\n5 7\n9\n")
    × Both long_file (text "9\n")
    × Both short_file (text "1 0\n5 7\n9\n")
    × Both wide_file (text "1 0\n5 7\n9\n")
    × (output plain_form point_file ≡ text "9\n")
    × (output origins_form point_file ≡ text "11 1\n1 0\n5 7\n")
    × Both low_file (text "1 0\n10 0\n5 0 4104 200 0 1\n5 0 4104 200 9 1\n5 0 4104 200 99 1\n1 0\n2 0\n5 0 10008 20 9 0\n")
    × Both high_file high_text
    × (output origins_form pointers ≡ text "1 0\n2 0\n11 0\n12 0\n13 0 1\n13 0 0\n13 11\n16 0\n2 0\n13 0 0\n")
    × (output plain_form worked
    ≡ text "1 0\n2 0\n4 0\n5 0 4104 20 9 1\n5 7\n2 6\n2 0\n2 0\n5 0 8195 11 10 0\n6 0 0\n6 0 1\n8 0 4136 4\n9 0 2 1 35 6\n3 7\n3 0\n")
