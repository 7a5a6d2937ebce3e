-- Document 01, the plain list, with S-1, S-2, S-5, S-6 and S-7: what each call answers and leaves, from the map, the call's arguments and the live
-- blocks alone. It knows neither 1 and 2, since the map is good and the lengths are right, nor 8. Assumes nothing.
use Rattle.std.specs.Prelude.{Bool, cond, not, ◌&&◌, List, [], ◌∷◌, ℕ, ◌+◌, ◌*◌, ◌-◌, ◌/◌, ◌%◌, length, take, leb, ltb, eqb}
use Rattle.std.proofs.Math.Option.{Option, none, some}
use Rattle.types.specs.Block.{Block, len}
use Rattle.types.specs.Gap.{Gap}
use Rattle.types.specs.Call.{Call, clear, begin, free, remove, written, ask, valid, initialised, next, audit, place, Answer, answer, done, yes_no, Refusal, first_of, unless}
use Rattle.specification.specs.Numbers.{bit}
use Rattle.specification.specs.Map.{Map, in_heap, in_stack, outside}
use Rattle.specification.specs.Form.{Form}
use Rattle.specification.specs.Footprint.{place_start, place_end, place_length, fits, meets}
use Rattle.specification.specs.Calls.{begun, is_for_literal}
use Rattle.specification.specs.Place.{gaps_from, best, is_none, place_fields}
use Rattle.specification.specs.Blocks.{contains, holds, has_base, is_written, all_written, any, find, insert, without, with_bytes, count, live_bytes, written_bytes}

-- the fields of ask, of the block that holds the address; of next, of the block that is found. Without a block the call is refused, and this is not
-- asked
abbrev pub ask_fields : (a : ℕ) → Option Block → Answer
ask_fields a none = done
ask_fields a (some b) = answer 0 b.base (len b) (a - b.base) (bit (is_written b a))

abbrev pub next_fields : Option Block → Answer
next_fields none = done
next_fields (some b) = answer 0 b.base (len b) 0 0

-- of audit: how many blocks in the heap and in the stack, how many bytes they have, how many of these are written
abbrev pub totals : Map → List Block → Answer
totals m bs = answer 0 (count (in_heap m) bs) (count (λ base. not (in_heap m base)) bs) (live_bytes bs) (written_bytes bs)

-- S-6: the place of a heap block has a byte of the segment that begins there. The gaps beside the blocks are runs of segments of which no place has
-- a byte, as they are in the image of the list
abbrev pub takes : Form → Map → (segment : ℕ) → Block → Bool
takes F m a b = in_heap m b.base && (ltb (place_start F b.base) (a + F.segment) && ltb a (place_end F b.base (len b)))

abbrev pub list_gaps : Form → Map → List Block → List Gap
list_gaps F m bs = gaps_from F m (λ i. not (any (takes F m (m.heap_start + i * F.segment)) bs)) (m.heap_size / F.segment) 0 0

-- a refusal changes nothing
abbrev pub refuse_list : List Block → List Refusal → List Block × Answer → List Block × Answer
refuse_list bs numbers does = unless (first_of numbers) bs does

unfoldable pub on_list : Form → Map → Call → List Block → List Block × Answer
on_list F m clear bs = ([], done)
-- 6: footprints would meet
on_list F m (begin how base L) bs =
    refuse_list bs
    ((3, eqb L 0) ∷ (4, not (fits F m (is_for_literal how) base L)) ∷ (5, in_heap m base && not (eqb (base % F.segment) 0)) ∷ (6, any (meets F m base L) bs) ∷ [])
    (insert (begun how base L) bs, done)
-- S-2: of address 0 nothing changes. 7: no block has this base
on_list F m (free base) bs =
    cond (eqb base 0) (bs, done)
    (refuse_list bs ((4, outside m base) ∷ (15, in_stack m base) ∷ (7, not (any (has_base base) bs)) ∷ []) (without base bs, done))
on_list F m (remove base) bs = refuse_list bs ((4, not (in_stack m base)) ∷ (7, not (any (has_base base) bs)) ∷ []) (without base bs, done)
-- 7: no block holds all n bytes; 13: the one that does is a literal
on_list F m (written a n) bs =
    refuse_list bs ((3, eqb n 0) ∷ (4, outside m a) ∷ (7, not (any (holds a n) bs)) ∷ (13, any (λ b. holds a n b && b.literal) bs) ∷ []) (with_bytes a n bs, done)
on_list F m (ask a) bs = refuse_list bs ((4, outside m a) ∷ (7, not (any (contains a) bs)) ∷ []) (bs, ask_fields a (find (contains a) bs))
on_list F m (valid write a n from) bs =
    refuse_list bs ((3, eqb n 0) ∷ []) (bs, yes_no (any (λ b. holds a n b && contains from b && not (write && b.literal)) bs))
on_list F m (initialised a n) bs = refuse_list bs ((3, eqb n 0) ∷ []) (bs, yes_no (any (λ b. holds a n b && all_written a n b) bs))
-- the list is in address order, so that the first such block is the lowest
on_list F m (next a) bs = refuse_list bs ((7, not (any (λ b. leb a b.base) bs)) ∷ []) (bs, next_fields (find (λ b. leb a b.base) bs))
on_list F m audit bs = (bs, totals m bs)
on_list F m (place L budget) bs =
    let looked = take budget (list_gaps F m bs) in
    let chosen = best (place_length F L) looked in
    refuse_list bs ((3, eqb L 0) ∷ (14, is_none chosen) ∷ []) (bs, place_fields F L (length looked) chosen)
