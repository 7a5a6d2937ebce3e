-- Lists of live blocks: finding, joining, removing, marking, totals. Assumes nothing.
use Rattle.std.specs.Prelude.{Bool, true, false, cond, List, [], ◌∷◌, ℕ, zero, suc, ◌+◌, ltb}
use Rattle.std.proofs.Math.Option.{Option, none, some}
use Rattle.number.specs.Bits.{bit, ones}
use Rattle.plain.specs.Block.{Block, len, contains, has_base, mark_block}

-- the first block that is so
unfoldable pub find : (Block → Bool) → List Block → Option Block
find p [] = none
find p (b ∷ bs) = cond (p b) (some b) (find p bs)

abbrev pub found : Option Block → Bool
found none = false
found (some b) = true

-- some block is so
abbrev pub any : (Block → Bool) → List Block → Bool
any p bs = found (find p bs)

-- b is one of the blocks
pub data Has (b : Block) : List Block → Type 0 where
  here : {bs : List Block} → Has b (b ∷ bs)
  there : {c : Block} {bs : List Block} → Has b bs → Has b (c ∷ bs)

-- a block joins, in address order
unfoldable pub insert : Block → List Block → List Block
insert b [] = b ∷ []
insert b (c ∷ cs) = cond (ltb b.base c.base) (b ∷ c ∷ cs) (c ∷ insert b cs)

-- the block with this base goes
unfoldable pub remove : ℕ → List Block → List Block
remove x [] = []
remove x (c ∷ cs) = cond (has_base x c) cs (c ∷ remove x cs)

-- the byte at an address counts as written, in the block that holds it
unfoldable pub mark_one : ℕ → List Block → List Block
mark_one a [] = []
mark_one a (c ∷ cs) = cond (contains a c) (mark_block a c ∷ cs) (c ∷ mark_one a cs)

-- the n bytes from an address on count as written
unfoldable pub mark_all : (a n : ℕ) → List Block → List Block
mark_all a zero bs = bs
mark_all a (suc n) bs = mark_all (suc a) n (mark_one a bs)

-- a sum over the blocks
unfoldable pub total : (Block → ℕ) → List Block → ℕ
total w [] = 0
total w (b ∷ bs) = w b + total w bs

-- the number of blocks whose base is so
abbrev pub count : (ℕ → Bool) → List Block → ℕ
count p bs = total (λ b. bit (p b.base)) bs

-- the sum of all lengths
abbrev pub live : List Block → ℕ
live bs = total len bs

-- the number of written bytes
abbrev pub written : List Block → ℕ
written bs = total (λ b. ones b.marks) bs
