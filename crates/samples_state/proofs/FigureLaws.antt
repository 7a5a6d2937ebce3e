-- What a number of a state is in each case. Assumes nothing.
use mathlib.Core.Path.{◌≡◌}
use mathlib.Core.List.{List}
use Prim.Native.Nat.{ℕ, ◌≤◌, ◌<◌}
use borrow.Author.Tests.{lt-ltb, le-ltb}
use Rattle.std.specs.Prelude.{Option, Some, None}
use Rattle.samples_text.specs.Text.{after_word, number_at, long_at}
use Rattle.samples_state.specs.declared.figures.Figures.{Figures}
use Rattle.samples_state.specs.declared.figures.Part.{Part}
use Rattle.samples_state.specs.Figures.{length_at, counter_at, counter_name, figures_at, heap_length, primary_length, secondary_length, heap_cells_length, stack_cells_length}

module _ (line : List ℕ) (p : ℕ) (name : List ℕ) where
  pub length-other : after_word line p name ≡ None → None ≡ length_at line p name
  unfolding length_at
  length-other e = rw e

  module _ (w : ℕ) (x : after_word line p name ≡ Some w) where
    pub length_none : number_at line w ≡ None → None ≡ length_at line p name
    unfolding length_at
    length_none e = rw (x, e)

    module _ (m : ℕ × ℕ) (y : number_at line w ≡ Some m) where
      pub length-large : 136 < m.0 → None ≡ length_at line p name
      unfolding length_at
      length-large h = rw (x, y, lt-ltb 136 m.0 h)

      pub length-is : m.0 ≤ 136 → Some m ≡ length_at line p name
      unfolding length_at
      length-is h = rw (x, y, le-ltb 136 m.0 h)

module _ (line : List ℕ) (p : ℕ) where
  pub counter-other : after_word line p counter_name ≡ None → None ≡ counter_at line p
  unfolding counter_at
  counter-other e = rw e

  pub counter-is : (w : ℕ) → after_word line p counter_name ≡ Some w → long_at line w ≡ counter_at line p
  unfolding counter_at
  counter-is w e = rw e

-- the first number that stands there, one name after another
module _ (line : List ℕ) (p : ℕ) (f : Figures) where
  pub part-heap : (m : ℕ × ℕ) → length_at line p heap_length ≡ Some m
      → ◌≡◌ {A = Option Part} (Some (record { figures = record f { heap = m.0 }; end = m.1 })) (figures_at line p f)
  unfolding figures_at
  part-heap m e = rw (e)

  module _ (h : length_at line p heap_length ≡ None) where
    pub part-primary : (m : ℕ × ℕ) → length_at line p primary_length ≡ Some m
        → ◌≡◌ {A = Option Part} (Some (record { figures = record f { primary = m.0 }; end = m.1 })) (figures_at line p f)
    unfolding figures_at
    part-primary m e = rw (h, e)

    module _ (q : length_at line p primary_length ≡ None) where
      pub part-secondary : (m : ℕ × ℕ) → length_at line p secondary_length ≡ Some m
          → ◌≡◌ {A = Option Part} (Some (record { figures = record f { secondary = m.0 }; end = m.1 })) (figures_at line p f)
      unfolding figures_at
      part-secondary m e = rw (h, q, e)

      module _ (s : length_at line p secondary_length ≡ None) where
        pub part-heap_cells : (m : ℕ × ℕ) → length_at line p heap_cells_length ≡ Some m
            → ◌≡◌ {A = Option Part} (Some (record { figures = record f { heap_cells = m.0 }; end = m.1 })) (figures_at line p f)
        unfolding figures_at
        part-heap_cells m e = rw (h, q, s, e)

        module _ (a : length_at line p heap_cells_length ≡ None) where
          pub part-stack_cells : (m : ℕ × ℕ) → length_at line p stack_cells_length ≡ Some m
              → ◌≡◌ {A = Option Part} (Some (record { figures = record f { stack_cells = m.0 }; end = m.1 })) (figures_at line p f)
          unfolding figures_at
          part-stack_cells m e = rw (h, q, s, a, e)

          module _ (b : length_at line p stack_cells_length ≡ None) where
            pub part-none : counter_at line p ≡ None → ◌≡◌ {A = Option Part} None (figures_at line p f)
            unfolding figures_at
            part-none e = rw (h, q, s, a, b, e)

            pub part-counter : (m : ℕ × ℕ) → counter_at line p ≡ Some m
                → ◌≡◌ {A = Option Part} (Some (record { figures = record f { counter = m.0 }; end = m.1 })) (figures_at line p f)
            unfolding figures_at
            part-counter m e = rw (h, q, s, a, b, e)
