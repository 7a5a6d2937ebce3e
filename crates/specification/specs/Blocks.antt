-- Document 01, the plain list: blocks and lists of them. A block holds as many addresses as it has bytes, from its base on. Assumes nothing.
use Rattle.std.specs.Prelude.{Bool, true, false, cond, ◌&&◌, ◌||◌, List, [], ◌∷◌, ℕ, zero, suc, ◌+◌, ◌-◌, get_or, set, leb, ltb, eqb}
use Rattle.std.proofs.Math.Option.{Option, none, some}
use Rattle.types.specs.Block.{Block, len}
use Rattle.specification.specs.Numbers.{bit, ones}

-- ---- one block

-- it holds the address; it holds the n addresses from a on; it has this base
abbrev pub contains : (a : ℕ) → Block → Bool
contains a b = leb b.base a && ltb a (b.base + len b)

unfoldable pub holds : (a n : ℕ) → Block → Bool
holds a n b = leb b.base a && leb (a + n) (b.base + len b)

abbrev pub has_base : (base : ℕ) → Block → Bool
has_base x b = eqb b.base x

-- the byte at an address that it holds is written; each of the n bytes from a on, which it holds, is
abbrev pub is_written : Block → (a : ℕ) → Bool
is_written b a = get_or b.marks (a - b.base) false

unfoldable pub all_written : (a n : ℕ) → Block → Bool
all_written a zero b = true
all_written a (suc n) b = is_written b a && all_written (suc a) n b

-- the block with that byte written
abbrev pub with_mark : (a : ℕ) → Block → Block
with_mark a b = record { base = b.base; marks = set b.marks (a - b.base) true; literal = b.literal }

-- ---- lists

-- some block is so; the first one that is
unfoldable pub any : (Block → Bool) → List Block → Bool
any p [] = false
any p (b ∷ bs) = p b || any p bs

unfoldable pub find : (Block → Bool) → List Block → Option Block
find p [] = none
find p (b ∷ bs) = cond (p b) (some b) (find p bs)

-- a block joins, in address order
unfoldable pub insert : Block → List Block → List Block
insert b [] = b ∷ []
insert b (c ∷ cs) = cond (ltb b.base c.base) (b ∷ c ∷ cs) (c ∷ insert b cs)

-- the block with this base goes
unfoldable pub without : (base : ℕ) → List Block → List Block
without x [] = []
without x (b ∷ bs) = cond (has_base x b) bs (b ∷ without x bs)

-- the byte at an address, and the n bytes from an address on, become written, in the block that holds them
unfoldable pub with_byte : (a : ℕ) → List Block → List Block
with_byte a [] = []
with_byte a (b ∷ bs) = cond (contains a b) (with_mark a b ∷ bs) (b ∷ with_byte a bs)

unfoldable pub with_bytes : (a n : ℕ) → List Block → List Block
with_bytes a zero bs = bs
with_bytes a (suc n) bs = with_bytes (suc a) n (with_byte a bs)

-- a sum over the blocks
unfoldable pub total : (Block → ℕ) → List Block → ℕ
total f [] = 0
total f (b ∷ bs) = f b + total f bs

-- how many have their base there
abbrev pub count : (there : ℕ → Bool) → List Block → ℕ
count there bs = total (λ b. bit (there b.base)) bs

-- the sum of all lengths; the number of written bytes
abbrev pub live_bytes : List Block → ℕ
live_bytes bs = total len bs

abbrev pub written_bytes : List Block → ℕ
written_bytes bs = total (λ b. ones b.marks) bs
