-- Whole lists of calls: the answer of each call, and what the state looks like after it. Assumes nothing.
use Rattle.std.specs.Prelude.{List, [], ◌∷◌}

-- each call acts on what the one before left; `view` is what is shown of the state
unfoldable pub run : {C A X S : Type 0} → (view : X → S) → (act : C → X → X × A) → X → List C → List (A × S)
run view act x [] = []
run view act x (c ∷ cs) = ((act c x).1, view (act c x).0) ∷ run view act (act c x).0 cs
