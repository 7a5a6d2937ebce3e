-- The names of the calls that have a record. Assumes nothing.
use Rattle.std.specs.Prelude.{List, [], ◌∷◌, ◌++◌, Option, Some, None, ℕ}
use Rattle.samples_records.specs.declared.names.Named.{Named}
use Rattle.samples_text.specs.Text.{after_name, by_place}

-- the first of some names that stands at place p, with the place after it
unfoldable pub name_in : (line : List ℕ) → (p : ℕ) → (names : List (List ℕ × ℕ)) → Option Named
name_in line p [] = None
name_in line p (n ∷ ns) = by_place (after_name line p n.0) (name_in line p ns) (λ e. Some (record { kind = n.1; end = e }))

-- what is found by now, or this name
unfoldable pub or_named : (line : List ℕ) → (p : ℕ) → Option Named → (name : List ℕ × ℕ) → Option Named
or_named line p None n = name_in line p (n ∷ [])
or_named line p (Some f) n = Some f

-- one name after another
abbrev pub or_names : (line : List ℕ) → (p : ℕ) → Option Named → (names : List (List ℕ × ℕ)) → Option Named
or_names line p f [] = f
or_names line p f (n ∷ ns) = or_names line p (or_named line p f n) ns

-- the calls that change shadows: each name and its kind
abbrev pub changing_names : List (List ℕ × ℕ)
changing_names =
    -- record
    (114 ∷ 101 ∷ 99 ∷ 111 ∷ 114 ∷ 100 ∷ [], 2) ∷
    -- record_written
    (114 ∷ 101 ∷ 99 ∷ 111 ∷ 114 ∷ 100 ∷ 95 ∷ 119 ∷ 114 ∷ 105 ∷ 116 ∷ 116 ∷ 101 ∷ 110 ∷ [], 10) ∷
    -- record_literal
    (114 ∷ 101 ∷ 99 ∷ 111 ∷ 114 ∷ 100 ∷ 95 ∷ 108 ∷ 105 ∷ 116 ∷ 101 ∷ 114 ∷ 97 ∷ 108 ∷ [], 14) ∷
    -- free
    (102 ∷ 114 ∷ 101 ∷ 101 ∷ [], 3) ∷
    -- remove
    (114 ∷ 101 ∷ 109 ∷ 111 ∷ 118 ∷ 101 ∷ [], 16) ∷
    -- written
    (119 ∷ 114 ∷ 105 ∷ 116 ∷ 116 ∷ 101 ∷ 110 ∷ [], 4) ∷
    []

-- the calls that only read them
abbrev pub reading_names : List (List ℕ × ℕ)
reading_names =
    -- ask
    (97 ∷ 115 ∷ 107 ∷ [], 5) ∷
    -- valid
    (118 ∷ 97 ∷ 108 ∷ 105 ∷ 100 ∷ [], 6) ∷
    -- valid_read
    (118 ∷ 97 ∷ 108 ∷ 105 ∷ 100 ∷ 95 ∷ 114 ∷ 101 ∷ 97 ∷ 100 ∷ [], 15) ∷
    -- initialised
    (105 ∷ 110 ∷ 105 ∷ 116 ∷ 105 ∷ 97 ∷ 108 ∷ 105 ∷ 115 ∷ 101 ∷ 100 ∷ [], 7) ∷
    -- next
    (110 ∷ 101 ∷ 120 ∷ 116 ∷ [], 8) ∷
    -- audit
    (97 ∷ 117 ∷ 100 ∷ 105 ∷ 116 ∷ [], 9) ∷
    []

-- the calls of pointers
abbrev pub pointer_names : List (List ℕ × ℕ)
pointer_names =
    -- point
    (112 ∷ 111 ∷ 105 ∷ 110 ∷ 116 ∷ [], 11) ∷
    -- copy
    (99 ∷ 111 ∷ 112 ∷ 121 ∷ [], 12) ∷
    -- live
    (108 ∷ 105 ∷ 118 ∷ 101 ∷ [], 13) ∷
    []

abbrev pub call_names : List (List ℕ × ℕ)
call_names = changing_names ++ reading_names ++ pointer_names
