-- What the player's heap (Heap.antt) and the desk's (Desk.antt, S-8) differ in. All else is said once, of a form F: `F.segment` is 8 for the
-- player and 16 for the desk. Assumes nothing.
use Rattle.std.specs.Prelude.{Bool, List, ℕ}
use Rattle.types.specs.Block.{Block}
use Rattle.types.specs.Reading.{Reading}
use Rattle.specification.specs.Map.{Map}

pub record Form : Type 0 where
  -- the rules of a map
  pub good : Map → Bool
  -- the bytes of a heap segment
  pub segment : ℕ
  -- the shadow byte that a block gives to an address of its place
  pub byte : Block → (a : ℕ) → ℕ
  -- the reading of an address of the heap
  pub read : Map → (heap : List ℕ) → (a : ℕ) → Reading
  -- the address whose shadow byte holds the written bit of address a, and the bit's number there
  pub bits_at : Map → (a : ℕ) → ℕ
  pub bit_number : Map → (a : ℕ) → ℕ
