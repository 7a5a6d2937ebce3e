-- S-4: the plain list with counter, origins and referents. What each call answers and leaves, from the map, the arguments and the list alone.
-- Assumes nothing.
use Rattle.std.specs.Prelude.{Bool, cond, not, ◌&&◌, ◌||◌, List, [], ◌∷◌, ℕ, ◌%◌, eqb}
use Rattle.std.proofs.Math.Option.{Option, none, some}
use Rattle.types.specs.Block.{Block, len}
use Rattle.types.specs.Call as plains
use Rattle.types.specs.Call.{Answer, number, done, yes_no, first_of, unless}
use Rattle.types.specs.Origins.{Call, plain, point, copy, live, OriginList}
use Rattle.specification.specs.Map.{Map, outside}
use Rattle.specification.specs.Heap.{player}
use Rattle.specification.specs.Blocks.{contains, holds, has_base, any, find}
use Rattle.specification.specs.PlainList.{on_list}
use Rattle.specification.specs.Image.{image}
use Rattle.specification_origins.specs.Cells.{touches, cells_image}
use Rattle.specification_origins.specs.Origins.{Lent, Does, records, ends, clears, leaves, does, numbers, counter_after}

-- ---- the plain kinds

-- one number changes
abbrev pub put : (c value : ℕ) → (ℕ → ℕ) → ℕ → ℕ
put c value f d = cond (eqb d c) value (f d)

-- the cells that touch a block that ends hold nothing: its origin goes, and the pointers kept there are unset
abbrev pub without : Option Block → (ℕ → ℕ) → ℕ → ℕ
without none f d = f d
without (some b) f d = cond (touches b.base (len b) d) 0 (f d)

abbrev pub origin_after : Does → OriginList → ℕ → ℕ
origin_after (records base L) x = put base x.counter x.origin
origin_after (ends base) x = without (find (has_base base) x.blocks) x.origin
origin_after clears x = λ d. 0
origin_after leaves x = x.origin

abbrev pub referent_after : Does → OriginList → ℕ → ℕ
referent_after (records base L) x = x.referent
referent_after (ends base) x = without (find (has_base base) x.blocks) x.referent
referent_after clears x = λ d. 0
referent_after leaves x = x.referent

-- r: the blocks that the player's plain list leaves, and its answer
abbrev pub with_origins : plains.Call → OriginList → List Block × Answer → OriginList × Answer
with_origins c x r =
    unless (first_of (numbers (number r.1) (does c) x.counter)) x (
      record { blocks = r.0; origin = origin_after (does c) x; referent = referent_after (does c) x; counter = counter_after (does c) x.counter },
      r.1,
    )

-- ---- kinds 11 to 13

-- 11
abbrev pub no_pointer : OriginList → (c : ℕ) → Bool
no_pointer x c = not (eqb (c % 4) 0) || not (any (holds c 4) x.blocks)

-- the origin of the block that holds the address, or 0 where none does
abbrev pub origin_of : (ℕ → ℕ) → Option Block → ℕ
origin_of origin none = 0
origin_of origin (some b) = origin b.base

abbrev pub origin_held : OriginList → (a : ℕ) → ℕ
origin_held x a = origin_of x.origin (find (contains a) x.blocks)

abbrev pub set_to : OriginList → (c value : ℕ) → OriginList
set_to x c value = record { blocks = x.blocks; origin = x.origin; referent = put c value x.referent; counter = x.counter }

-- ---- every call

unfoldable pub on_origins : Map → Call → OriginList → OriginList × Answer
on_origins m (plain c) x = with_origins c x (on_list player m c x.blocks)
on_origins m (point c a) x = unless (first_of ((4, outside m c) ∷ (11, no_pointer x c) ∷ [])) x (set_to x c (origin_held x a), done)
on_origins m (copy to from) x =
    unless (first_of ((4, outside m to || outside m from) ∷ (11, no_pointer x to || no_pointer x from) ∷ [])) x (set_to x to (x.referent from), done)
on_origins m (live c a) x =
    unless (first_of ((4, outside m c) ∷ (11, no_pointer x c) ∷ [])) x
    (x, yes_no (not (eqb (x.referent c) 0) && eqb (origin_held x a) (x.referent c)))

-- of the blocks the plain form's image; beside it the image of the cells, and the counter
abbrev pub image_of : Map → OriginList → Lent
image_of m x = record { shadows = image player m x.blocks; cells = cells_image m x.origin x.referent; counter = x.counter }
