-- What a reading of an address gives. Assumes nothing.
use Rattle.std.specs.Prelude.{Bool, ℕ}

pub data Reading : Type 0 where
  -- no block
  nothing : Reading
  -- the written bit is 1 or 0; `literal`, S-5: the block may not be written
  block : (base length offset written : ℕ) (literal : Bool) → Reading
  damaged : Reading
