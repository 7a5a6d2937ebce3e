-- The lent shadows, each a list of bytes. Assumes nothing.
use Rattle.std.specs.Prelude.{List, ℕ}

-- heap shadow; primary and secondary
abbrev pub Shadows : Type 0
Shadows = List ℕ × (List ℕ × List ℕ)

abbrev pub shadows : (heap primary secondary : List ℕ) → Shadows
shadows h p s = (h, (p, s))

abbrev pub heap_of : Shadows → List ℕ
heap_of s = s.0

abbrev pub primary_of : Shadows → List ℕ
primary_of s = s.1.0

abbrev pub secondary_of : Shadows → List ℕ
secondary_of s = s.1.1
