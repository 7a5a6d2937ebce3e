-- Document 01: which lists of blocks can stand in the areas, and the shadow bytes that stand for such a list: its image. Assumes nothing.
use Rattle.std.specs.Prelude.{Bool, true, cond, not, ◌&&◌, ◌||◌, List, [], ◌∷◌, ℕ, ◌+◌, ◌%◌, leb, ltb, eqb}
use Rattle.types.specs.Block.{Block, len}
use Rattle.specification.specs.Numbers.{tab}
use Rattle.specification.specs.Map.{Map, Shadows, shadows, in_heap, in_stack}
use Rattle.specification.specs.Form.{Form}
use Rattle.specification.specs.Stack.{primary_byte, secondary_byte}
use Rattle.specification.specs.Footprint.{place_start, place_end, fits, foot_start, foot_end}
use Rattle.specification.specs.Blocks.{contains}

-- ---- lists whose blocks may stand together

unfoldable pub all_true : List Bool → Bool
all_true [] = true
all_true (x ∷ xs) = x && all_true xs

-- the blocks are in address order, and none of their footprints begins below `low`
unfoldable pub may_stand : Form → Map → (low : ℕ) → List Block → Bool
may_stand F m low [] = true
may_stand F m low (b ∷ bs) =
    -- it has a byte, and fits; S-5: a literal in the stack
    leb 1 (len b) && fits F m b.literal b.base (len b)
    -- in the heap, its base is aligned
    && (not (in_heap m b.base) || eqb (b.base % F.segment) 0)
    -- S-5: a literal has every byte written
    && (not b.literal || all_true b.marks)
    -- its footprint meets none before, and no later one meets it
    && leb low (foot_start F m b.base) && may_stand F m (foot_end F m b.base (len b)) bs

-- ---- the image

-- the byte that the first block gives of those that have the address, or 0
unfoldable pub given : (has : Block → Bool) → (byte : Block → ℕ) → List Block → ℕ
given has byte [] = 0
given has byte (b ∷ bs) = cond (has b) (byte b) (given has byte bs)

abbrev pub in_place : Form → Map → (a : ℕ) → Block → Bool
in_place F m a b = in_heap m b.base && (leb (place_start F b.base) a && ltb a (place_end F b.base (len b)))

abbrev pub in_stack_block : Map → (a : ℕ) → Block → Bool
in_stack_block m a b = in_stack m b.base && contains a b

-- position q of a shadow is that of the address start + q
unfoldable pub image : Form → Map → List Block → Shadows
image F m bs =
    shadows
    (tab 0 m.heap_size (λ q. let a = m.heap_start + q in given (in_place F m a) (λ b. F.byte b a) bs))
    (tab 0 m.stack_size (λ q. let a = m.stack_start + q in given (in_stack_block m a) (λ b. primary_byte b a) bs))
    (tab 0 m.stack_size (λ q. let a = m.stack_start + q in given (in_stack_block m a) (λ b. secondary_byte b a) bs))
