-- What the lent arrays of four numbers stand for, and the number that says how a block begins. Assumes nothing.
use Rattle.std.specs.Prelude.{cond, List, ℕ, eqb}
use Rattle.number.specs.Parts.{at}
use Rattle.map.specs.declared.Map.{Map}
use Rattle.types.specs.declared.Beginning.{Beginning}
use Rattle.types.specs.declared.Beginning.TheVariants.{Unwritten, Written, Literal}
use Rattle.plain.specs.Call.{Answer, answer}
use Rattle.shadows.specs.Shadows.{Shadows}

-- heap start, heap size, stack start, stack size
abbrev pub map_of : List ℕ → Map
map_of l = record { heap_start = at l 0; heap_size = at l 1; stack_start = at l 2; stack_size = at l 3 }

-- how a block begins, as a number: 0 unwritten, 1 written, any other a literal
abbrev pub beginning_of : ℕ → Beginning
beginning_of n = cond (eqb n 0) Unwritten (cond (eqb n 1) Written Literal)

-- the number that is returned, and the answer fields
abbrev pub answered : ℕ → (fields : List ℕ) → Answer
answered k l = answer k (at l 0) (at l 1) (at l 2) (at l 3)

-- the three shadows after a call, and its answer
abbrev pub left : ℕ → (fields heap primary secondary : List ℕ) → Shadows × Answer
left k l h p s = ((h, (p, s)), answered k l)
