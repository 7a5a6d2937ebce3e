-- What a reading of an address tells, and what an audit tells; the plain list's own. Assumes nothing.
use Rattle.std.specs.Prelude.{Bool, not, List, ℕ, ◌-◌}
use Rattle.std.proofs.Math.Option.{Option, none, some}
use Rattle.number.specs.Bits.{bit}
use Rattle.plain.specs.Block.{Block, len, contains, is_written}
use Rattle.plain.specs.Blocks.{find, count, live, written}
use Rattle.plain.specs.Rules.{Rules}
pub use Rattle.types.specs.Reading.{Reading, nothing, block, damaged}

-- heap blocks, stack blocks, live bytes, written bytes
pub data Tally : Type 0 where
  tally : (heap stack live written : ℕ) → Tally

-- what the block that holds an address says of it
abbrev pub says : ℕ → Option Block → Reading
says a none = nothing
says a (some b) = block b.base (len b) (a - b.base) (bit (is_written b a)) b.literal

-- the plain list's own reading of an address
abbrev pub lookup : List Block → ℕ → Reading
lookup bs a = says a (find (contains a) bs)

-- the plain list's own totals
abbrev pub tally_of : Rules → List Block → Tally
tally_of R bs = tally (count R.heap bs) (count (λ a. not (R.heap a)) bs) (live bs) (written bs)
