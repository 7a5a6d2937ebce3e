-- What the requests of document 02 promise of their own, beside the three demands, in which their calls are calls like the others. Of one form F under
-- one map m; proved for the player and the desk: crates/promises. S-3 asks for a form of the code, S-4 is crates/specification_origins, and of S-8 the
-- desk itself is Desk.antt, its example crates/specification_samples. Assumes nothing.
use Rattle.std.specs.Prelude.{◌≡◌, ◌⊎◌, Bool, true, false, not, cond, List, [], ◌∷◌, ℕ, suc, ◌+◌, ◌*◌, ◌-◌, ◌≤◌, ◌<◌, length, take, eqb}
use Rattle.number.specs.Parts.{Each, in_part}
use Rattle.types.specs.Block.{Block, len}
use Rattle.types.specs.Gap.{Gap}
use Rattle.types.specs.Call.{Call, clear, begin, free, remove, written, ask, valid, initialised, next, audit, place, record_block, record_written, record_literal, valid_read, valid_write, Answer, answer, refusal, done, first_of}
use Rattle.specification.specs.Numbers.{at}
use Rattle.specification.specs.Map.{Map, Shadows, heap_of, primary_of, secondary_of, right_lengths, in_heap, in_stack, outside, stack_position}
use Rattle.specification.specs.Form.{Form}
use Rattle.specification.specs.Footprint.{place_length}
use Rattle.specification.specs.Place.{gaps}
use Rattle.specification.specs.PlainList.{on_list, list_gaps}
use Rattle.specification.specs.Image.{image}
use Rattle.specification.specs.Call.{call}
use Rattle.specification.specs.Votes.{number_of, Stands}

-- x is one of the elements
abbrev pub Among : {X : Type 0} → X → List X → Type 0
Among x [] = ⊥
Among x (y ∷ ys) = (x ≡ y) ⊎ Among x ys

-- ---- S-1: kind 10

pub record WrittenFromStart (F : Form) (m : Map) : Type 0 where
  -- kind 10 answers as record, on any input
  pub answers_of_record : (base L : ℕ) (s : Shadows) → (call F m (record_written base L) s).1 ≡ (call F m (record_block base L) s).1
  -- and leaves what record leaves, and then written of the whole block
  pub as_written : (base L : ℕ) (s : Shadows) → number_of F m (record_block base L) s ≡ 0
      → call F m (written base L) (call F m (record_block base L) s).0 ≡ ((call F m (record_written base L) s).0, done)

-- ---- S-2: free of the null pointer

pub record FreeOfNull (F : Form) (m : Map) : Type 0 where
  -- 1 and 2 alone refuse it, and no byte is altered
  pub free_of_null : (s : Shadows) → call F m (free 0) s ≡ (s, refusal (first_of ((1, not (F.good m)) ∷ (2, not (right_lengths m s)) ∷ [])))
  -- a good map has no address 0, so that no block is there
  pub null_outside : F.good m ≡ true → outside m 0 ≡ true

-- ---- S-5: text that may only be read

-- one block of the list holds `from` and the n bytes from a on
abbrev pub HeldBy : Block → List Block → (a n from : ℕ) → Type 0
HeldBy b bs a n from = Among b bs × (b.base ≤ a) × (a + n ≤ b.base + len b) × (b.base ≤ from) × (from < b.base + len b)

-- the calls that may end the literal with this base
abbrev pub ends_literal : (base : ℕ) → Call → Bool
ends_literal x clear = true
ends_literal x (begin how b L) = false
ends_literal x (free b) = false
ends_literal x (remove b) = eqb b x
ends_literal x (written a n) = false
ends_literal x (ask a) = false
ends_literal x (valid write a n from) = false
ends_literal x (initialised a n) = false
ends_literal x (next a) = false
ends_literal x audit = false
ends_literal x (place L budget) = false

pub record Literals (F : Form) (m : Map) : Type 0 where
  -- on every image kind 15 answers 1 exactly if one block holds all that is asked, valid exactly if that block is no literal besides
  pub read_yes : F.good m ≡ true → (bs : List Block) → Stands F m bs → (a n from : ℕ) → 1 ≤ n → (b : Block) → HeldBy b bs a n from
      → (call F m (valid_read a n from) (image F m bs)).1 ≡ answer 0 1 0 0 0
  pub read_no : F.good m ≡ true → (bs : List Block) → Stands F m bs → (a n from : ℕ) → 1 ≤ n → ((b : Block) → HeldBy b bs a n from → ⊥)
      → (call F m (valid_read a n from) (image F m bs)).1 ≡ answer 0 0 0 0 0
  pub write_yes : F.good m ≡ true → (bs : List Block) → Stands F m bs → (a n from : ℕ) → 1 ≤ n → (b : Block) → HeldBy b bs a n from
      → b.literal ≡ false → (call F m (valid_write a n from) (image F m bs)).1 ≡ answer 0 1 0 0 0
  pub write_no : F.good m ≡ true → (bs : List Block) → Stands F m bs → (a n from : ℕ) → 1 ≤ n
      → ((b : Block) → HeldBy b bs a n from → b.literal ≡ false → ⊥) → (call F m (valid_write a n from) (image F m bs)).1 ≡ answer 0 0 0 0 0
  -- outside the heap kind 14 answers as kind 10, and leaves its bytes with bit 1 set in each primary byte of the block
  pub literal_answers : (base L : ℕ) (s : Shadows) → in_heap m base ≡ false → (call F m (record_literal base L) s).1 ≡ (call F m (record_written base L) s).1
  pub literal_bytes : (base L : ℕ) (s : Shadows) → number_of F m (record_literal base L) s ≡ 0
      → let t = (call F m (record_literal base L) s).0 in let w = (call F m (record_written base L) s).0 in
      (heap_of t ≡ heap_of w) × (secondary_of t ≡ secondary_of w)
      × ((q : ℕ) → at (primary_of t) q ≡ at (primary_of w) q + cond (in_part (stack_position m base) L q) 2 0)
  -- on the list, and so on every image, no call but clear and remove of its base ends or alters a literal
  pub literal_stays : F.good m ≡ true → (bs : List Block) → Stands F m bs → (b : Block) → Among b bs → b.literal ≡ true
      → (c : Call) → ends_literal b.base c ≡ false → Among b (on_list F m c bs).0

-- ---- S-6: a place for the next block

-- the n bytes of the heap shadow from position q on are zero
abbrev pub ZeroFrom : Shadows → (q n : ℕ) → Type 0
ZeroFrom s q n = (p : ℕ) → q ≤ p → p < q + n → at (heap_of s) p ≡ 0

-- the n segments from segment i on are a gap: all zero, in the heap, and neither the segment before nor the one after is all zero
pub record IsGap (F : Form) (m : Map) (s : Shadows) (i n : ℕ) : Type 0 where
  pub some : 1 ≤ n
  pub inside : (i + n) * F.segment ≤ m.heap_size
  pub zero : ZeroFrom s (i * F.segment) (n * F.segment)
  pub before : (j : ℕ) → suc j ≡ i → ZeroFrom s (j * F.segment) F.segment → ⊥
  pub after : (i + n + 1) * F.segment ≤ m.heap_size → ZeroFrom s ((i + n) * F.segment) F.segment → ⊥

abbrev pub gap_of : Form → Map → (i n : ℕ) → Gap
gap_of F m i n = record { start = m.heap_start + i * F.segment; bytes = n * F.segment }

-- each gap ends before any later one begins
abbrev pub Ascending : List Gap → Type 0
Ascending [] = Unit {0}
Ascending (g ∷ gs) = Each (λ (h : Gap). g.start + g.bytes < h.start) gs × Ascending gs

abbrev pub surplus_of : Answer → ℕ
surplus_of (answer k a b c d) = c

pub record Places (F : Form) (m : Map) : Type 0 where
  -- whatever the bytes are, the list has each gap, nothing else, and the lower ones first
  pub gaps_all : (s : Shadows) (i n : ℕ) → IsGap F m s i n → Among (gap_of F m i n) (gaps F m (heap_of s))
  pub gaps_only : (s : Shadows) (g : Gap) → Among g (gaps F m (heap_of s)) → (i : ℕ) × (n : ℕ) × IsGap F m s i n × (g ≡ gap_of F m i n)
  pub gaps_ordered : (s : Shadows) → Ascending (gaps F m (heap_of s))
  -- the gap chosen is looked at and fits; no other such gap is smaller, and none of the same size is lower. Base, count and surplus are its own
  pub place_chooses : (s : Shadows) (L budget : ℕ) → number_of F m (place L budget) s ≡ 0
      → let looked = take budget (gaps F m (heap_of s)) in
      (g : Gap) × Among g looked × (place_length F L ≤ g.bytes)
      × ((h : Gap) → Among h looked → place_length F L ≤ h.bytes → (g.bytes ≤ h.bytes) × (g.bytes ≡ h.bytes → g.start ≤ h.start))
      × (call F m (place L budget) s ≡ (s, answer 0 (g.start + F.segment) (length looked) (g.bytes - place_length F L) 0))
  -- a larger budget is accepted too, and its surplus is no larger: it gains at most this surplus
  pub larger_budget : (s : Shadows) (L k l : ℕ) → k ≤ l → number_of F m (place L k) s ≡ 0
      → (number_of F m (place L l) s ≡ 0) × (surplus_of (call F m (place L l) s).1 ≤ surplus_of (call F m (place L k) s).1)
  -- right after it, record of that base and length is accepted
  pub placed_recorded : (s : Shadows) (L budget base n surplus : ℕ) → (call F m (place L budget) s).1 ≡ answer 0 base n surplus 0 → number_of F m (record_block base L) s ≡ 0
  -- the plain list's gaps are those of its own image
  pub own_image : F.good m ≡ true → (bs : List Block) → Stands F m bs → list_gaps F m bs ≡ gaps F m (heap_of (image F m bs))

-- ---- S-7: only heap blocks may be freed

-- a is the base of a listed block
abbrev pub BaseOf : (a : ℕ) → List Block → Type 0
BaseOf a bs = (b : Block) × Among b bs × (b.base ≡ a)

pub record Removals (F : Form) (m : Map) : Type 0 where
  -- under a good map and right lengths, on any bytes, free of a stack address is 15, remove of an address outside the stack 4
  pub free_of_stack : F.good m ≡ true → (s : Shadows) → right_lengths m s ≡ true → (a : ℕ) → in_stack m a ≡ true → call F m (free a) s ≡ (s, refusal 15)
  pub remove_elsewhere : F.good m ≡ true → (s : Shadows) → right_lengths m s ≡ true → (a : ℕ) → in_stack m a ≡ false → call F m (remove a) s ≡ (s, refusal 4)
  -- free alters no byte of the stack's shadows, remove none of the heap's, on any input
  pub free_in_heap : (a : ℕ) (s : Shadows) → (primary_of (call F m (free a) s).0 ≡ primary_of s) × (secondary_of (call F m (free a) s).0 ≡ secondary_of s)
  pub remove_in_stack : (a : ℕ) (s : Shadows) → heap_of (call F m (remove a) s).0 ≡ heap_of s
  -- on every image free is accepted exactly at 0 and at the base of a heap block, remove exactly at the base of a stack block
  pub free_if : F.good m ≡ true → (bs : List Block) → Stands F m bs → (a : ℕ) → (a ≡ 0) ⊎ ((in_heap m a ≡ true) × BaseOf a bs) → number_of F m (free a) (image F m bs) ≡ 0
  pub free_only : F.good m ≡ true → (bs : List Block) → Stands F m bs → (a : ℕ) → number_of F m (free a) (image F m bs) ≡ 0 → (a ≡ 0) ⊎ ((in_heap m a ≡ true) × BaseOf a bs)
  pub remove_if : F.good m ≡ true → (bs : List Block) → Stands F m bs → (a : ℕ) → (in_stack m a ≡ true) × BaseOf a bs → number_of F m (remove a) (image F m bs) ≡ 0
  pub remove_only : F.good m ≡ true → (bs : List Block) → Stands F m bs → (a : ℕ) → number_of F m (remove a) (image F m bs) ≡ 0 → (in_stack m a ≡ true) × BaseOf a bs
