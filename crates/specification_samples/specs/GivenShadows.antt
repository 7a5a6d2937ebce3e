-- Samples on given shadows, damaged or not: a call and its answer under a map of 64 heap and 32 stack bytes. Assumes nothing.
use Rattle.std.specs.Prelude.{Bool, true, ◌&&◌, List, [], ◌∷◌, ◌++◌, ℕ, ◌+◌, length, replicate, take, drop}
use Rattle.types.specs.Call.{Call, Answer}
use Rattle.specification.specs.Map.{Map, Shadows, shadows}
use Rattle.specification.specs.Form.{Form}
use Rattle.specification.specs.Call.{call}
use Rattle.specification_samples.specs.Samples.{Part, same_answer}

-- shadows that are zero but for these parts, a call, and its answer
pub record Given : Type 0 where
  pub heap : List Part
  pub primary : List Part
  pub secondary : List Part
  pub asks : Call
  pub gets : Answer

-- each part in place of the bytes from its position on
unfoldable pub put : List Part → List ℕ → List ℕ
put [] h = h
put (p ∷ ps) h = put ps (take p.0 h ++ (p.1 ++ drop (p.0 + length p.1) h))

abbrev pub given_shadows : Given → Shadows
given_shadows x = shadows (put x.heap (replicate 64 0)) (put x.primary (replicate 32 0)) (put x.secondary (replicate 32 0))

-- under a map with areas of 64 and 32 bytes
unfoldable pub all_given : Form → Map → List Given → Bool
all_given F m [] = true
all_given F m (x ∷ xs) = same_answer (call F m x.asks (given_shadows x)).1 x.gets && all_given F m xs
