-- What a state is, part by part. Assumes nothing.
use mathlib.Core.Path.{◌≡◌}
use mathlib.Core.Bool.{true, false}
use mathlib.Core.List.{List, ◌++◌}
use Rattle.std.specs.Prelude.{Option, Some, None}
use Rattle.std.specs.Option.{option_or}
use mathlib.Core.Logic.{◌≢◌}
use Prim.Native.Nat.{ℕ, suc}
use lib.ListN.{take, drop}
use borrow.Author.Tests.{eq-eqb, ne_eqb}
use Rattle.samples_text.specs.Text.{skip_spaces, after_byte}
use Rattle.samples_bytes.specs.Given as bytes
use Rattle.samples_bytes.specs.Given.{store_named, heap_name, primary_name, secondary_name}
use Rattle.samples_state.specs.declared.figures.Figures.{Figures}
use Rattle.samples_state.specs.declared.figures.Part.{Part}
use Rattle.samples_state.specs.Figures.{figures_at}
use Rattle.samples_state.specs.State.{store_first, Five, five, State, state, Stored, stored, store_any, part_at, end_of, figures_after, give_all, is_given, heap_cells_name, stack_cells_name}

-- a part of n bytes from 0 on took the place of the first n
pub first_of : (n m : ℕ) (line : List ℕ) (p : ℕ) (name b x : List ℕ) (r : Option ℕ) → m ≡ n → bytes.stored r x ≡ store_named line p name (take m b)
    → bytes.stored r (x ++ drop m b) ≡ store_first n line p name b
unfolding store_first
first_of n m line p name b x r e w = rw (← e, ← w)

pub any_of : (line : List ℕ) (p : ℕ) (f : Figures) (h q s a b h' q' s' a' b' : List ℕ) (i j k l m n o t r : Option ℕ)
    → bytes.stored i h' ≡ store_first f.heap line p heap_name h → bytes.stored j q' ≡ store_first f.primary line p primary_name q
    → bytes.stored k s' ≡ store_first f.secondary line p secondary_name s → bytes.stored l a' ≡ store_first f.heap_cells line p heap_cells_name a
    → bytes.stored m b' ≡ store_first f.stack_cells line p stack_cells_name b → n ≡ option_or i j → o ≡ option_or n k → t ≡ option_or o l → r ≡ option_or t m
    → stored r (five h' q' s' a' b') ≡ store_any line p f (five h q s a b)
unfolding store_any
any_of line p f h q s a b h' q' s' a' b' i j k l m n o t r x y z u v e₁ e₂ e₃ e₄ = rw (← x, ← y, ← z, ← u, ← v, e₄, e₃, e₂, e₁)

module _ (line : List ℕ) (p : ℕ) (f : Figures) (x y : Five) (r : Option ℕ) (u : stored r y ≡ store_any line p f x) where
  pub part-bytes : (e : ℕ) → r ≡ Some e → stored (Some e) (state f y) ≡ part_at line p (state f x)
  unfolding part_at
  part-bytes e w = rw (← u, w)

  pub part-figures : r ≡ None → (t : Option Part) → t ≡ figures_at line p f → stored (end_of t) (state (figures_after f t) y) ≡ part_at line p (state f x)
  unfolding part_at
  part-figures w t v = rw (← u, w, v)

-- ---- m turns are left, and n after this one

pub all_end : (m : ℕ) (line : List ℕ) (p : ℕ) (x : State) → m ≡ 0 → give_all m line p x ≡ stored None x
unfolding give_all
all_end m line p x z = rw z

module _ (m n : ℕ) (z : m ≡ suc n) (line : List ℕ) (p : ℕ) (x : State) (w : ℕ) (s : w ≡ skip_spaces line p) where
  pub all-call : (c : ℕ) → after_byte line w 58 ≡ Some c → give_all m line p x ≡ stored (Some c) x
  unfolding give_all
  all-call c a = rw (z, ← s, a)

  module _ (a : after_byte line w 58 ≡ None) where
    pub all-close : w ≡ p → give_all m line p x ≡ stored None x
    unfolding give_all
    all-close e = rw (z, ← s, a, eq-eqb w p e)

    module _ (d : w ≢ p) where
      pub all-other : (x' : State) → stored None x' ≡ part_at line w x → give_all m line p x ≡ stored None x'
      unfolding give_all
      all-other x' y = rw (z, ← s, a, ne_eqb w p d, ← y)

      pub all-next : (e : ℕ) (x' : State) → stored (Some e) x' ≡ part_at line w x → give_all m line p x ≡ give_all n line e x'
      unfolding give_all
      all-next e x' y = rw (z, ← s, a, ne_eqb w p d, ← y)

pub given-none : (r : Option ℕ) (x : State) (y : Stored (Option ℕ) State) → stored r x ≡ y → r ≡ None → false ≡ is_given y
given-none r x y w e = rw (← w, e)

pub given-call : (r : Option ℕ) (x : State) (y : Stored (Option ℕ) State) → stored r x ≡ y → (c : ℕ) → r ≡ Some c → true ≡ is_given y
given-call r x y w c e = rw (← w, e)
