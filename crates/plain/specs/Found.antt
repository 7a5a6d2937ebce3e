-- What an audit's walk finds from some place on: the marks of the block that goes on there, and the blocks after it; or no image.
-- Assumes nothing.
use Rattle.std.specs.Prelude.{Bool, List, [], ◌∷◌, ◌++◌, ℕ}
use Rattle.std.proofs.Math.Option.{Option, none, some}
use Rattle.plain.specs.Block.{Block}
use Rattle.plain.specs.Rules.{Rules}
use Rattle.plain.specs.Reading.{Tally, tally_of}

pub data Found : Type 0 where
  bad : Found
  got : List Bool → List Block → Found

-- marks that stand before what was found
abbrev pub goes_on : List Bool → Found → Found
goes_on m bad = bad
goes_on m (got ms bs) = got (m ++ ms) bs

-- a block begins before what was found, a literal or not
abbrev pub begins : (base : ℕ) (literal : Bool) → Found → Found
begins base t bad = bad
begins base t (got ms bs) = got [] (record { base = base; marks = ms; literal = t } ∷ bs)

-- the totals of what a whole walk found: it begins with no block going on, so that no marks stand before the first block
abbrev pub totals : Rules → Found → Option Tally
totals R bad = none
totals R (got ms bs) = some (tally_of R bs)
