-- The list of blocks that readings tell, address by address: one block for each reading with offset 0. Assumes nothing.
use Rattle.std.specs.Prelude.{Bool, false, List, [], ◌∷◌, ℕ, zero, suc, ◌+◌, eqb}
use Rattle.number.specs.Parts.{tab}
use Rattle.plain.specs.Block.{Block}
use Rattle.plain.specs.Rules.{Rules}
use Rattle.plain.specs.Reading.{Reading, nothing, block, damaged}
use Rattle.plain.specs.Ops.{Ops, read_any}

abbrev pub says_written : Reading → Bool
says_written nothing = false
says_written damaged = false
says_written (block b l o m t) = eqb m 1

-- what a reading adds to the blocks after it: with offset 0 a block, a literal if it says so, with the marks that the readings of its bytes tell
abbrev pub told : (ℕ → Reading) → Reading → List Block → List Block
told rd nothing bs = bs
told rd damaged bs = bs
told rd (block b l zero m t) bs = record { base = b; marks = tab 0 l (λ i. says_written (rd (b + i))); literal = t } ∷ bs
told rd (block b l (suc o) m t) bs = bs

-- the n addresses from a on
unfoldable pub collect : (ℕ → Reading) → (a n : ℕ) → List Block
collect rd a zero = []
collect rd a (suc n) = told rd (rd a) (collect rd (suc a) n)

-- the list that a shadow state tells: the readings of all addresses below the end of the areas
abbrev pub read_back : {S : Type 0} → Rules → Ops S → S → List Block
read_back R O s = collect (read_any R O s) 0 R.top
