-- Document 01: the reading of any address, and what it says to the calls. Assumes nothing.
use Rattle.std.specs.Prelude.{Bool, true, false, cond, ◌&&◌, ℕ, ◌+◌, leb, eqb}
use Rattle.types.specs.Reading.{Reading, nothing, block, damaged}
use Rattle.specification.specs.Map.{Map, Shadows, heap_of, primary_of, secondary_of, in_heap, in_stack}
use Rattle.specification.specs.Form.{Form}
use Rattle.specification.specs.Stack.{read_stack}

-- an address in neither area is in no block
unfoldable pub reading : Form → Map → Shadows → (a : ℕ) → Reading
reading F m s a = cond (in_heap m a) (F.read m (heap_of s) a) (cond (in_stack m a) (read_stack m (primary_of s) (secondary_of s) a) nothing)

abbrev pub is_damaged : Reading → Bool
is_damaged nothing = false
is_damaged (block base L offset written literal) = false
is_damaged damaged = true

abbrev pub is_block : Reading → Bool
is_block nothing = false
is_block (block base L offset written literal) = true
is_block damaged = false

-- the first byte of a block
abbrev pub is_first : Reading → Bool
is_first nothing = false
is_first (block base L offset written literal) = eqb offset 0
is_first damaged = false

-- by the reading of the first of n bytes, its block has them all
abbrev pub in_one : (n : ℕ) → Reading → Bool
in_one n nothing = false
in_one n (block base L offset written literal) = leb (offset + n) L
in_one n damaged = false

-- two readings are of one block where base and length agree
abbrev pub same_block : Reading → Reading → Bool
same_block (block b L o w t) (block b' L' o' w' t') = eqb b b' && eqb L L'
same_block (block b L o w t) nothing = false
same_block (block b L o w t) damaged = false
same_block nothing r = false
same_block damaged r = false

-- S-5: the block may not be written
abbrev pub is_literal : Reading → Bool
is_literal nothing = false
is_literal (block base L offset written literal) = literal
is_literal damaged = false

-- the length of the block; 0 where there is none, which is not asked
abbrev pub length_of : Reading → ℕ
length_of nothing = 0
length_of (block base L offset written literal) = L
length_of damaged = 0
