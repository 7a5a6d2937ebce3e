-- The numbers of a state that a sample gives: the length of each shadow, and the counter. Assumes nothing.
use Rattle.std.specs.Prelude.{cond, List, [], ◌∷◌, Option, Some, None, ℕ, ◌≤◌, ltb}
use Rattle.samples_text.specs.Text.{after_word, by_place, number_at, by_number, long_at}
use Rattle.samples_state.specs.declared.figures.Figures.{Figures}
use Rattle.samples_state.specs.declared.figures.Part.{Part}

-- the length after this name, 136 at most, and the place after it
unfoldable pub length_at : (line : List ℕ) → (p : ℕ) → (name : List ℕ) → Option (ℕ × ℕ)
length_at line p name =
    by_place (after_word line p name) None (λ s. by_number (number_at line s) None (λ v e. cond (ltb 136 v) None (Some (v, e))))

-- counter=
abbrev pub counter_name : List ℕ
counter_name = 99 ∷ 111 ∷ 117 ∷ 110 ∷ 116 ∷ 101 ∷ 114 ∷ 61 ∷ []

-- the counter, and the place after it
unfoldable pub counter_at : (line : List ℕ) → (p : ℕ) → Option (ℕ × ℕ)
counter_at line p = by_place (after_word line p counter_name) None (λ s. long_at line s)

-- heap=, pri=, sec=, heapcells= and stackcells=
abbrev pub heap_length : List ℕ
heap_length = 104 ∷ 101 ∷ 97 ∷ 112 ∷ 61 ∷ []

abbrev pub primary_length : List ℕ
primary_length = 112 ∷ 114 ∷ 105 ∷ 61 ∷ []

abbrev pub secondary_length : List ℕ
secondary_length = 115 ∷ 101 ∷ 99 ∷ 61 ∷ []

abbrev pub heap_cells_length : List ℕ
heap_cells_length = 104 ∷ 101 ∷ 97 ∷ 112 ∷ 99 ∷ 101 ∷ 108 ∷ 108 ∷ 115 ∷ 61 ∷ []

abbrev pub stack_cells_length : List ℕ
stack_cells_length = 115 ∷ 116 ∷ 97 ∷ 99 ∷ 107 ∷ 99 ∷ 101 ∷ 108 ∷ 108 ∷ 115 ∷ 61 ∷ []

-- whichever number stands there, no more than one of the names does
unfoldable pub figures_at : (line : List ℕ) → (p : ℕ) → Figures → Option Part
figures_at line p f =
    by_number (length_at line p heap_length)
    (by_number (length_at line p primary_length)
    (by_number (length_at line p secondary_length)
    (by_number (length_at line p heap_cells_length)
    (by_number (length_at line p stack_cells_length)
    (by_number (counter_at line p) None
    (λ v e. Some (record { figures = record f { counter = v }; end = e })))
    (λ v e. Some (record { figures = record f { stack_cells = v }; end = e })))
    (λ v e. Some (record { figures = record f { heap_cells = v }; end = e })))
    (λ v e. Some (record { figures = record f { secondary = v }; end = e })))
    (λ v e. Some (record { figures = record f { primary = v }; end = e })))
    (λ v e. Some (record { figures = record f { heap = v }; end = e }))

-- no shadow is longer than its buffer
abbrev pub Fit : Figures → Type 0
Fit f = (f.heap ≤ 136) × (f.primary ≤ 136) × (f.secondary ≤ 136) × (f.heap_cells ≤ 136) × (f.stack_cells ≤ 136)
