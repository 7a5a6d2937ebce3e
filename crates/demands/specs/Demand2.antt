-- Demand 2, what it says: readings follow the encodings for all bytes, on two numbers and a byte at most, the player's nine and the desk's
-- seventeen; each placeable list of blocks has one image; an audit accepts exactly the images, with the list's totals; and the list read back is
-- the list it was made of. All of it is said of calls.
-- Each statement is proved in proofs/Demand2.antt. That every call on every image answers as the list does is `OnEveryImage` of Demand3.antt.
-- Assumes nothing.
use Rattle.std.specs.Prelude.{◌≡◌, true, false, cond, List, ℕ, zero, suc, ◌+◌, ◌≤◌, length}
use Rattle.number.specs.Parts.{Each}
use Rattle.number.specs.Little.{Bytes}
use Rattle.map.specs.FormMap.{FormMap}
use Rattle.map.specs.Map.{good_map}
use Rattle.plain.specs.Block.{Block}
use Rattle.plain.specs.Blocks.{count, live, written}
use Rattle.plain.specs.Rules.{Placed}
use Rattle.plain.specs.Areas.{map_rules}
use Rattle.plain.specs.Reading.{Reading, nothing, block, damaged}
use Rattle.plain.specs.ReadBack.{collect}
use Rattle.plain.specs.Call.{ask, valid_write, audit, Answer, answer, number}
use Rattle.shadows.specs.Shadows.{Shadows, lengths_fit, image, byte_at, looks}
use Rattle.monitor_base.specs.Calls.{call}
use Rattle.demands.specs.Addresses.{in_heap, in_stack, outside, end_of_areas, reading_at}

-- ---- readings

-- what ask answers of a reading: 7 "no block there", 8 "a reading is damaged", else "base, length, offset, written as 1 or 0"
abbrev pub asked : Reading → Answer
asked nothing = answer 7 0 0 0 0
asked (block b l o w t) = answer 0 b l o w
asked damaged = answer 8 0 0 0 0

-- readings follow the encodings, for all bytes: under a good map and right lengths ask answers, at every address, 4 outside both areas, and
-- inside what its area's layout reads there; it alters no byte
abbrev pub AskReads : FormMap → Type 0
AskReads m =
    (s : Shadows) → good_map m ≡ true → lengths_fit m s ≡ true → (a : ℕ)
    → call m (ask a) s ≡ (s, cond (outside m a) (answer 4 0 0 0 0) (asked (reading_at m s a)))

-- a reading looks at `heap` shadow bytes at most in the heap, at `stack` in the stack. Shadows that agree on the bytes it looks at read the same,
-- and look at the same bytes; and if both have the right lengths, or neither, ask answers the same
abbrev pub ReadsOn : (heap stack : ℕ) → FormMap → Type 0
ReadsOn h k m =
    (s : Shadows) (a : ℕ)
    → (length (looks m s a) ≤ cond (in_heap m a) h k)
    × ((t : Shadows) → Each (λ q. byte_at t q ≡ byte_at s q) (looks m s a)
    → (reading_at m t a ≡ reading_at m s a)
    × (looks m t a ≡ looks m s a)
    × (lengths_fit m t ≡ lengths_fit m s → (call m (ask a) t).1 ≡ (call m (ask a) s).1))

-- in the heap of every form two numbers and a byte of written bits; the stack is the same in every form
abbrev pub FewBytes : FormMap → Type 0
FewBytes m = ReadsOn (m.width + m.width + 1) 9 m

-- ---- images

-- an image has the right lengths, and each of its bytes is below 256
abbrev pub ImageShape : FormMap → Type 0
ImageShape m =
    (bs : List Block)
    → (lengths_fit m (image m bs) ≡ true) × Bytes (image m bs).0 × Bytes (image m bs).1.0 × Bytes (image m bs).1.1

-- a list has one image, since `image` is a function; and an image has one list: two placed lists (placeable blocks in address order) with
-- the same image are the same list, written bytes and literals included
abbrev pub OneImage : FormMap → Type 0
OneImage m =
    good_map m ≡ true → (bs cs : List Block) → Placed (map_rules m) 0 bs → Placed (map_rules m) 0 cs → image m bs ≡ image m cs → bs ≡ cs

-- ---- audit

-- "number of heap blocks, number of stack blocks, sum of all lengths, number of written bytes"
abbrev pub totals_of : FormMap → List Block → Answer
totals_of m bs = answer 0 (count (in_heap m) bs) (count (in_stack m) bs) (live bs) (written bs)

-- audit accepts the image of every placed list, leaves it, and answers the list's totals
abbrev pub AuditAccepts : FormMap → Type 0
AuditAccepts m =
    good_map m ≡ true → (bs : List Block) → Placed (map_rules m) 0 bs → call m audit (image m bs) ≡ (image m bs, totals_of m bs)

-- and nothing else, for any map and any shadows: where it answers 0 the map is good, the shadows are the image of a placed list, and the
-- answer is that list's totals
abbrev pub AuditOnly : FormMap → Type 0
AuditOnly m =
    (s : Shadows) → number (call m audit s).1 ≡ 0
    → (good_map m ≡ true)
    × ((bs : List Block) × Placed (map_rules m) 0 bs × (s ≡ image m bs) × (call m audit s ≡ (s, totals_of m bs)))

-- 8, "for audit, no image": under a good map and right lengths, shadows that are the image of no placed list get 8
abbrev pub AuditRefuses : FormMap → Type 0
AuditRefuses m =
    (s : Shadows) → good_map m ≡ true → lengths_fit m s ≡ true
    → ((bs : List Block) → Placed (map_rules m) 0 bs → s ≡ image m bs → ⊥) → call m audit s ≡ (s, answer 8 0 0 0 0)

-- ---- the list read back

-- what the answers of ask, and of valid for one byte, tell of an address: a block, where ask is accepted; a literal, where valid then says 0
abbrev pub block_told : (asked valid : Answer) → Reading
block_told (answer zero b l o w) (answer zero zero x y z) = block b l o w true
block_told (answer zero b l o w) (answer zero (suc v) x y z) = block b l o w false
block_told (answer zero b l o w) (answer (suc k) v x y z) = damaged
block_told (answer (suc k) b l o w) r = nothing

abbrev pub told_at : FormMap → Shadows → ℕ → Reading
told_at m s a = block_told (call m (ask a) s).1 (call m (valid_write a 1 a) s).1

-- the list that these two calls tell, made for every address below the end of the areas: an answer with offset 0 tells base and length of a
-- block, and whether it is a literal, and the answers for its bytes tell which of them are written
abbrev pub list_told : FormMap → Shadows → List Block
list_told m s = collect (told_at m s) 0 (end_of_areas m)

-- the list read back is the list the image was made of
abbrev pub ReadBack : FormMap → Type 0
ReadBack m = good_map m ≡ true → (bs : List Block) → Placed (map_rules m) 0 bs → list_told m (image m bs) ≡ bs
