-- The first of some names, found one name after another. Assumes nothing.
use mathlib.Core.Path.{◌≡◌, refl, ap, ◌∙◌}
use mathlib.Core.Bool.{true, false}
use mathlib.Core.List.{List, [], ◌∷◌, ◌++◌}
use Prim.Native.Nat.{ℕ, ◌≤◌}
use native.Mathlib.Omega.{arith}
use Rattle.std.specs.Prelude.{Option, Some, None, IfSome}
use Rattle.std.specs.Option.{is_some}
use Rattle.number.specs.Parts.{Each}
use Rattle.samples_text.specs.Text.{after_name, by_place}
use Rattle.samples_records.specs.declared.names.Named.{Named}
use Rattle.samples_records.specs.Names.{name_in, or_named, or_names, changing_names, reading_names, pointer_names, call_names}

module _ (line : List ℕ) (p : ℕ) (n : List ℕ × ℕ) where
  pub or-found : (r : Option Named) → true ≡ is_some r → r ≡ or_named line p r n
  unfolding or_named
  or-found None e = cc
  or-found (Some f) e = refl

  pub or-other : (r : Option Named) → false ≡ is_some r → after_name line p n.0 ≡ None → None ≡ or_named line p r n
  unfolding or_named name_in
  or-other None e a = rw a
  or-other (Some f) e a = cc

  pub or-here : (r : Option Named) → false ≡ is_some r → (q : ℕ) → after_name line p n.0 ≡ Some q → Some (record { kind = n.1; end = q }) ≡ or_named line p r n
  unfolding or_named name_in
  or-here None e q a = rw a
  or-here (Some f) e q a = cc

pub also : (line : List ℕ) (p : ℕ) {f g r : Option Named} (n : List ℕ × ℕ) → r ≡ or_named line p f n → f ≡ g → r ≡ or_named line p g n
also line p n e w = e ∙ ap (λ x. or_named line p x n) w

-- what is found stays
stays : (line : List ℕ) (p : ℕ) (f : Named) (ns : List (List ℕ × ℕ)) → or_names line p (Some f) ns ≡ Some f
unfolding or_named
stays line p f [] = refl
stays line p f (n ∷ ns) = stays line p f ns

pub names-first : (line : List ℕ) (p : ℕ) (ns : List (List ℕ × ℕ)) → or_names line p None ns ≡ name_in line p ns
unfolding name_in or_named
names-first line p [] = refl
names-first line p (n ∷ ns) = go (after_name line p n.0) (names-first line p ns)
  where
    go : (a : Option ℕ) → or_names line p None ns ≡ name_in line p ns
        → or_names line p (by_place a None (λ e. Some (record { kind = n.1; end = e }))) ns
        ≡ by_place a (name_in line p ns) (λ e. Some (record { kind = n.1; end = e }))
    go None ih = ih
    go (Some e) ih = stays line p (record { kind = n.1; end = e }) ns

-- the kind that is found is one of the names'
pub kind-most : (line : List ℕ) (p m : ℕ) (ns : List (List ℕ × ℕ)) → Each (λ n. n.1 ≤ m) ns → IfSome (name_in line p ns) (λ n. n.kind ≤ m)
unfolding name_in
kind-most line p m [] h = tt
kind-most line p m (n ∷ ns) h = go (after_name line p n.0) (kind-most line p m ns h.1)
  where
    go : (a : Option ℕ) → IfSome (name_in line p ns) (λ n. n.kind ≤ m)
        → IfSome (by_place a (name_in line p ns) (λ e. Some (record { kind = n.1; end = e }))) (λ n. n.kind ≤ m)
    go None ih = ih
    go (Some e) ih = h.0

or-names : (line : List ℕ) (p : ℕ) (f : Option Named) (ms ns : List (List ℕ × ℕ)) → or_names line p (or_names line p f ms) ns ≡ or_names line p f (ms ++ ns)
or-names line p f [] ns = refl
or-names line p f (m ∷ ms) ns = or-names line p (or_named line p f m) ms ns

-- what is found among the names of calls
pub called : (line : List ℕ) (p : ℕ) (f g r : Option Named) → f ≡ or_names line p None changing_names → g ≡ or_names line p f reading_names
    → r ≡ or_names line p g pointer_names → (r ≡ name_in line p call_names) × IfSome r (λ n. n.kind ≤ 65535)
called line p f g r e d c =
    let h : g ≡ or_names line p None (changing_names ++ reading_names) =
    d ∙ ap (λ x. or_names line p x reading_names) e ∙ or-names line p None changing_names reading_names in
    let w : r ≡ name_in line p call_names =
    c ∙ ap (λ x. or_names line p x pointer_names) h ∙ or-names line p None (changing_names ++ reading_names) pointer_names ∙ names-first line p call_names in
    (w, rw w (kind-most line p 65535 call_names (omega arith)))
