-- Document 01: the nine shadow bytes that a reading looks at, at most; S-8: seventeen in the desk's heap. Assumes nothing.
use Rattle.std.specs.Prelude.{cond, ◌||◌, List, [], ◌∷◌, ◌++◌, map, ℕ, ◌+◌, ◌-◌, ◌/◌, leb, ltb, eqb}
use Rattle.specification.specs.Numbers.{at, tab}
use Rattle.specification.specs.Map.{Map, Shadows, heap_of, primary_of, secondary_of, stack_end, in_heap, in_stack, heap_position, stack_position}
use Rattle.specification.specs.Heap as player
use Rattle.specification.specs.Desk as desk
use Rattle.specification.specs.Stack.{piece_code}

-- a byte of the shadows
pub data Spot : Type 0 where
  heap : (position : ℕ) → Spot
  primary : (position : ℕ) → Spot
  secondary : (position : ℕ) → Spot

abbrev pub byte_at : Shadows → Spot → ℕ
byte_at s (heap q) = at (heap_of s) q
byte_at s (primary q) = at (primary_of s) q
byte_at s (secondary q) = at (secondary_of s) q

-- the number of the segment; and, where that leads to a header, the length there and the byte of written bits
abbrev pub player_looks : Map → (heap : List ℕ) → (a : ℕ) → List ℕ
player_looks m h a =
    let segment = player.segment_of m a in
    let w = player.number_at m h segment in
    tab (heap_position m segment) 4 (λ q. q)
    ++ cond (eqb w 0 || ltb segment (m.heap_start + 8 + (w - 1))) []
    (tab (heap_position m (segment - (w - 1) - 4)) 4 (λ q. q) ++ (heap_position m (player.bits_at m a) ∷ []))

abbrev pub desk_looks : Map → (heap : List ℕ) → (a : ℕ) → List ℕ
desk_looks m h a =
    let segment = desk.segment_of m a in
    let w = desk.number_at m h segment in
    tab (heap_position m segment) 8 (λ q. q)
    ++ cond (eqb w 0 || ltb segment (m.heap_start + 16 + (w - 1))) []
    (tab (heap_position m (segment - (w - 1) - 8)) 8 (λ q. q) ++ (heap_position m (desk.bits_at m a) ∷ []))

-- one primary byte; and, where its code is that of a piece whose first eight bytes lie in the area, their secondary bytes
abbrev pub stack_looks : Map → (primary : List ℕ) → (a : ℕ) → List Spot
stack_looks m p a =
    let code = at p (stack_position m a) / 4 in
    let j = code - piece_code in
    primary (stack_position m a)
    ∷ cond (ltb code piece_code || leb 63 code || ltb a (m.stack_start + j) || ltb (stack_end m) (a - j + 8)) []
    (tab (stack_position m (a - j)) 8 secondary)

-- the bytes that the reading of any address looks at, by what the form's heap looks at
abbrev pub looks : (heap_looks : Map → List ℕ → ℕ → List ℕ) → Map → Shadows → (a : ℕ) → List Spot
looks heap_looks m s a = cond (in_heap m a) (map heap (heap_looks m (heap_of s) a)) (cond (in_stack m a) (stack_looks m (primary_of s) a) [])
