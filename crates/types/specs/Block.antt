-- A live block of the plain list. Assumes nothing.
use Rattle.std.specs.Prelude.{Bool, List, ℕ, length}

-- its first address; for each of its bytes, in order, whether it is written; and, S-5, whether it is a literal, which may not be written
pub record Block : Type 0 where
  pub base : ℕ
  pub marks : List Bool
  pub literal : Bool

-- its length
abbrev pub len : Block → ℕ
len b = length b.marks
