-- The state that a sample of the form with origins gives. Where text is malformed, what was given before it stays. Assumes nothing.
use Rattle.std.specs.Prelude.{Bool, true, false, cond, List, [], ◌∷◌, ◌++◌, Option, Some, None, ℕ, zero, suc, take, drop, eqb}
use Rattle.std.specs.Option.{option_or}
use Rattle.samples_text.specs.Text.{skip_spaces, after_byte, by_place}
use Rattle.samples_bytes.specs.Given as bytes
use Rattle.samples_bytes.specs.Given.{shadow_of, store_named, heap_name, primary_name, secondary_name}
use Rattle.samples_state.specs.declared.figures.Figures.{Figures}
use Rattle.samples_state.specs.declared.figures.Part.{Part}
use Rattle.samples_state.specs.Figures.{figures_at}

-- the bytes of the shadow of this name, which is the first n bytes of a buffer
unfoldable pub store_first : (n : ℕ) → (line : List ℕ) → (p : ℕ) → (name buffer : List ℕ) → bytes.Stored
store_first n line p name b =
    bytes.stored (bytes.end_of (store_named line p name (take n b))) (shadow_of (store_named line p name (take n b)) ++ drop n b)

-- the five buffers, and the figures with them
pub data Five : Type 0 where
  five : (heap primary secondary heap_cells stack_cells : List ℕ) → Five

pub data State : Type 0 where
  state : Figures → Five → State

-- what was come to, and what stands there then
pub data Stored (A B : Type 0) : Type 0 where
  stored : A → B → Stored A B

-- heapcells@ and stackcells@
abbrev pub heap_cells_name : List ℕ
heap_cells_name = 104 ∷ 101 ∷ 97 ∷ 112 ∷ 99 ∷ 101 ∷ 108 ∷ 108 ∷ 115 ∷ 64 ∷ []

abbrev pub stack_cells_name : List ℕ
stack_cells_name = 115 ∷ 116 ∷ 97 ∷ 99 ∷ 107 ∷ 99 ∷ 101 ∷ 108 ∷ 108 ∷ 115 ∷ 64 ∷ []

-- no more than one of them is stored
abbrev pub stored_by : (heap primary secondary heap_cells stack_cells : bytes.Stored) → Stored (Option ℕ) Five
stored_by h q s a b =
    stored (option_or (option_or (option_or (option_or (bytes.end_of h) (bytes.end_of q)) (bytes.end_of s)) (bytes.end_of a)) (bytes.end_of b))
    (five (shadow_of h) (shadow_of q) (shadow_of s) (shadow_of a) (shadow_of b))

-- the bytes of whichever shadow's name stands there
unfoldable pub store_any : (line : List ℕ) → (p : ℕ) → Figures → Five → Stored (Option ℕ) Five
store_any line p f (five h q s a b) =
    stored_by (store_first f.heap line p heap_name h) (store_first f.primary line p primary_name q) (store_first f.secondary line p secondary_name s)
    (store_first f.heap_cells line p heap_cells_name a) (store_first f.stack_cells line p stack_cells_name b)

abbrev pub by_stored : {A B : Type 0} {C : Type 0} → Stored A B → (A → B → C) → C
by_stored (stored p x) g = g p x

-- the place after a number, and the figures with it, f before
abbrev pub end_of : Option Part → Option ℕ
end_of None = None
end_of (Some t) = Some t.end

abbrev pub figures_after : (f : Figures) → Option Part → Figures
figures_after f None = f
figures_after f (Some t) = t.figures

-- bytes, a length or the counter, in a state of these figures
unfoldable pub part_at : (line : List ℕ) → (p : ℕ) → State → Stored (Option ℕ) State
part_at line p (state f x) =
    by_stored (store_any line p f x)
    (λ r y. by_place r (stored (end_of (figures_at line p f)) (state (figures_after f (figures_at line p f)) y)) (λ e. stored (Some e) (state f y)))

-- whether the colon was found
abbrev pub is_given : Stored (Option ℕ) State → Bool
is_given (stored None x) = false
is_given (stored (Some c) x) = true

-- the map of all samples has so long shadows; the first origin is 1
abbrev pub first : Figures
first = record { heap = 64; primary = 32; secondary = 32; heap_cells = 128; stack_cells = 64; counter = 1 }

-- parts, n at most, each after spaces, and the colon that ends them
unfoldable pub give_all : (n : ℕ) → (line : List ℕ) → (p : ℕ) → State → Stored (Option ℕ) State
give_all zero line p x = stored None x
give_all (suc n) line p x =
    by_place (after_byte line (skip_spaces line p) 58)
    (cond (eqb (skip_spaces line p) p) (stored None x)
    (by_stored (part_at line (skip_spaces line p) x)
    (λ r y. by_place r (stored None y) (λ e. give_all n line e y))))
    (λ call. stored (Some call) x)
