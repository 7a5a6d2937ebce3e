-- S-6: a gap of the heap, a longest run of free segments. Assumes nothing.
use Rattle.std.specs.Prelude.{ℕ}

-- the address of its first segment, and its bytes
pub record Gap : Type 0 where
  pub start : ℕ
  pub bytes : ℕ
