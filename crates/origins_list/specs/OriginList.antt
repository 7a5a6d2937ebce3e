-- The plain list of the form with origins: "The plain list carries the counter, the origin of each block and the referent of each set pointer."
-- What each call answers and leaves, worked out from the map's rules, the call's arguments and the list; nothing comes from shadows, cells or
-- earlier answers. Assumes nothing.
use Rattle.std.specs.Prelude.{Bool, not, ◌&&◌, ◌||◌, List, [], ◌∷◌, ◌++◌, ℕ, eqb}
use Rattle.std.proofs.Math.Option.{Option, none, some}
use Rattle.plain.specs.Block.{Block, len, contains, holds, has_base}
use Rattle.plain.specs.Blocks.{find, any}
use Rattle.plain.specs.Rules.{Rules}
use Rattle.plain.specs.Call.{Answer, done, yes_no, Refusal, first_of, unless, by_rules}
use Rattle.plain.specs.PlainList.{by_list, list_after, list_answer}
use Rattle.origins_list.specs.Call.{Call, plain, point, copy, live, is_cell, Role, clears, begins, ends, leaves, role_of, unaligned, used_up}
use Rattle.origins_list.specs.Cells.{Held, empty, put, cut}
use Rattle.origins_list.specs.StateCalls.{counter_after}
pub use Rattle.types.specs.Origins.{OriginList}

-- no block, and no pointer set; the counter stands at k
abbrev pub first_list_at : (k : ℕ) → OriginList
first_list_at k = record { blocks = []; origin = empty; referent = empty; counter = k }

-- "A 64-bit counter, 1 at first"
abbrev pub first_list : OriginList
first_list = first_list_at 1

-- the origin of the block that holds an address, "or 0 where there is none"
abbrev pub origin_found : Held → Option Block → ℕ
origin_found f none = 0
origin_found f (some b) = f b.base

abbrev pub origin_held : OriginList → ℕ → ℕ
origin_held x a = origin_found x.origin (find (contains a) x.blocks)

-- a pointer can stand there: it is the address of a cell whose four bytes lie in one block
abbrev pub can_point : OriginList → ℕ → Bool
can_point x c = is_cell c && any (holds c 4) x.blocks

-- all refusals but 1 and 2; 8 is none of the list's
abbrev pub by_origins : Rules → Call → OriginList → List Refusal
by_origins R (plain c) x = by_rules R c ++ (unaligned (role_of c) ++ (by_list R c x.blocks ++ used_up (role_of c) x.counter))
by_origins R (point c a) x = (4, not (R.inside c)) ∷ (11, not (can_point x c)) ∷ []
by_origins R (copy t f) x = (4, not (R.inside t) || not (R.inside f)) ∷ (11, not (can_point x t) || not (can_point x f)) ∷ []
by_origins R (live c a) x = (4, not (R.inside c)) ∷ (11, not (can_point x c)) ∷ []

-- the live blocks after an accepted call
abbrev pub blocks_after : Call → OriginList → List Block
blocks_after (plain c) x = list_after c x.blocks
blocks_after (point c a) x = x.blocks
blocks_after (copy t f) x = x.blocks
blocks_after (live c a) x = x.blocks

-- the cells that touch the block that goes hold nothing
abbrev pub without_block : Option Block → Held → Held
without_block none f = f
without_block (some b) f = cut b.base (len b) f

-- the origins after an accepted call: a block that begins has the counter's, one that goes has none
abbrev pub origin_by : Role → OriginList → Held
origin_by clears x = empty
origin_by (begins b l) x = put b x.counter x.origin
origin_by (ends b) x = without_block (find (has_base b) x.blocks) x.origin
origin_by leaves x = x.origin

abbrev pub origin_after : Call → OriginList → Held
origin_after (plain c) x = origin_by (role_of c) x
origin_after (point c a) x = x.origin
origin_after (copy t f) x = x.origin
origin_after (live c a) x = x.origin

-- the referents after an accepted call: pointers kept in a block that goes are unset
abbrev pub referent_by : Role → OriginList → Held
referent_by clears x = empty
referent_by (begins b l) x = x.referent
referent_by (ends b) x = without_block (find (has_base b) x.blocks) x.referent
referent_by leaves x = x.referent

abbrev pub referent_after : Call → OriginList → Held
referent_after (plain c) x = referent_by (role_of c) x
referent_after (point c a) x = put c (origin_held x a) x.referent
referent_after (copy t f) x = put t (x.referent f) x.referent
referent_after (live c a) x = x.referent

abbrev pub origins_after : Call → OriginList → OriginList
origins_after c x =
    record { blocks = blocks_after c x; origin = origin_after c x; referent = referent_after c x; counter = counter_after c x.counter }

-- the pointer's referent is the origin of the block that holds the address
abbrev pub points_into : OriginList → (cell address : ℕ) → Bool
points_into x c a = not (eqb (x.referent c) 0) && eqb (origin_held x a) (x.referent c)

-- the answer of an accepted call
abbrev pub origin_answer : Rules → Call → OriginList → Answer
origin_answer R (plain c) x = list_answer R c x.blocks
origin_answer R (point c a) x = done
origin_answer R (copy t f) x = done
origin_answer R (live c a) x = yes_no (points_into x c a)

-- one call on the plain list
unfoldable pub origin_step : Rules → Call → OriginList → OriginList × Answer
origin_step R c x = unless (first_of (by_origins R c x)) x (origins_after c x, origin_answer R c x)
