-- Document 01, the calls and the numbers of refusal, with S-1, S-2, S-5 and S-7: each call on the three shadows, for any map, any arguments, any
-- lengths and any bytes. A call is a list of refusals, in the order in which they are tried, and what it does where none of them holds.
-- Assumes nothing.
use Rattle.std.specs.Prelude.{Bool, true, false, cond, not, ◌&&◌, ◌||◌, List, [], ◌∷◌, ℕ, zero, suc, ◌+◌, ◌*◌, ◌-◌, ◌/◌, ◌%◌, set, replicate, eqb}
use Rattle.types.specs.declared.Beginning.{Beginning}
use Rattle.types.specs.declared.Beginning.TheVariants.{Unwritten, Written, Literal}
use Rattle.types.specs.Block.{Block, len}
use Rattle.types.specs.Reading.{Reading, nothing, block, damaged}
use Rattle.types.specs.Call.{Answer, answer, done, yes_no, Refusal, first_of, unless}
use Rattle.specification.specs.Numbers.{bit_of, with_bit, at, zeros, over}
use Rattle.specification.specs.Map.{Map, Shadows, shadows, heap_of, primary_of, secondary_of, right_lengths, zeroed, in_heap, in_stack, outside, end_of_areas, heap_position, stack_position}
use Rattle.specification.specs.Form.{Form}
use Rattle.specification.specs.Stack.{primary_byte, secondary_byte}
use Rattle.specification.specs.Readings.{reading, is_damaged, is_block, is_first, in_one, same_block, is_literal, length_of}
use Rattle.specification.specs.Footprint.{place_start, place_length, fits}

-- 1, a map that breaks a rule, and 2, a shadow of another length than its area's, come before the call's own numbers. A refused call changes nothing, and
-- its fields are zero
abbrev pub refuse : Form → Map → Shadows → List Refusal → Shadows × Answer → Shadows × Answer
refuse F m s own does = unless (first_of ((1, not (F.good m)) ∷ (2, not (right_lengths m s)) ∷ own)) s does

-- ---- clear

unfoldable pub clear : Form → Map → Shadows → Shadows × Answer
clear F m s = refuse F m s [] (zeroed m, done)

-- ---- record, kind 2; S-1: kind 10, all bytes written; S-5: kind 14, a literal

-- the block as it begins
abbrev pub begun : Beginning → (base L : ℕ) → Block
begun Unwritten base L = record { base = base; marks = replicate L false; literal = false }
begun Written base L = record { base = base; marks = replicate L true; literal = false }
begun Literal base L = record { base = base; marks = replicate L true; literal = true }

abbrev pub is_for_literal : Beginning → Bool
is_for_literal Unwritten = false
is_for_literal Written = false
is_for_literal Literal = true

-- no shadow byte of the place is set: of header and segments in the heap, of both shadows in the stack
unfoldable pub vacant : Form → Map → Shadows → (base L : ℕ) → Bool
vacant F m s base L =
    cond (in_heap m base) (zeros (at (heap_of s)) (heap_position m (place_start F base)) (place_length F L))
    (zeros (at (primary_of s)) (stack_position m base) L && zeros (at (secondary_of s)) (stack_position m base) L)

-- the place gets the layout's bytes, every other byte stays
unfoldable pub stamp : Form → Map → Shadows → Block → Shadows
stamp F m s b =
    cond {A = Shadows} (in_heap m b.base)
    (shadows
    (over (heap_position m (place_start F b.base)) (place_length F (len b)) (λ q. F.byte b (m.heap_start + q)) (heap_of s))
    (primary_of s)
    (secondary_of s))
    (shadows
    (heap_of s)
    (over (stack_position m b.base) (len b) (λ q. primary_byte b (m.stack_start + q)) (primary_of s))
    (over (stack_position m b.base) (len b) (λ q. secondary_byte b (m.stack_start + q)) (secondary_of s)))

unfoldable pub begin : Form → Map → Beginning → (base length : ℕ) → Shadows → Shadows × Answer
begin F m how base L s =
    refuse F m s
    ((3, eqb L 0)
    ∷ (4, not (fits F m (is_for_literal how) base L))
    ∷ (5, in_heap m base && not (eqb (base % F.segment) 0))
    ∷ (6, not (vacant F m s base L)) ∷ [])
    (stamp F m s (begun how base L), done)

-- ---- free, kind 3: the shadow of block and header becomes zero. S-2: of address 0 nothing is done. S-7: a stack address gets 15

abbrev pub freed : Form → Map → Shadows → (base L : ℕ) → Shadows
freed F m s base L =
    shadows (over (heap_position m (place_start F base)) (place_length F L) (λ q. 0) (heap_of s)) (primary_of s) (secondary_of s)

unfoldable pub free : Form → Map → (base : ℕ) → Shadows → Shadows × Answer
free F m base s =
    let r = reading F m s base in
    cond (eqb base 0) (refuse F m s [] (s, done))
    (refuse F m s ((4, outside m base) ∷ (15, in_stack m base) ∷ (8, is_damaged r) ∷ (7, not (is_first r)) ∷ []) (freed F m s base (length_of r), done))

-- ---- S-7: remove, kind 16: both shadows of a stack block become zero

abbrev pub removed : Map → Shadows → (base L : ℕ) → Shadows
removed m s base L =
    shadows (heap_of s) (over (stack_position m base) L (λ q. 0) (primary_of s)) (over (stack_position m base) L (λ q. 0) (secondary_of s))

unfoldable pub remove : Form → Map → (base : ℕ) → Shadows → Shadows × Answer
remove F m base s =
    let r = reading F m s base in
    refuse F m s ((4, not (in_stack m base)) ∷ (8, is_damaged r) ∷ (7, not (is_first r)) ∷ []) (removed m s base (length_of r), done)

-- ---- written, kind 4: n bytes of one block become written, by their bits alone. S-5: 13 in a literal

-- the written bit of an address: in the heap a bit of its segment's written bits, in the stack bit 0 of its primary byte
abbrev pub is_marked : Form → Map → Shadows → (a : ℕ) → Bool
is_marked F m s a =
    cond (in_heap m a) (eqb (bit_of (at (heap_of s) (heap_position m (F.bits_at m a))) (F.bit_number m a)) 1)
    (eqb (at (primary_of s) (stack_position m a) % 2) 1)

unfoldable pub mark_one : Form → Map → Shadows → (a : ℕ) → Shadows
mark_one F m s a =
    let p = heap_position m (F.bits_at m a) in
    let q = stack_position m a in
    cond {A = Shadows} (in_heap m a)
    (shadows (set (heap_of s) p (with_bit (at (heap_of s) p) (F.bit_number m a))) (primary_of s) (secondary_of s))
    (shadows (heap_of s) (set (primary_of s) q (at (primary_of s) q / 2 * 2 + 1)) (secondary_of s))

-- the n addresses from a on become marked
unfoldable pub mark_all : Form → Map → Shadows → (a n : ℕ) → Shadows
mark_all F m s a zero = s
mark_all F m s a (suc n) = mark_all F m (mark_one F m s a) (suc a) n

-- they all are
unfoldable pub all_marked : Form → Map → Shadows → (a n : ℕ) → Bool
all_marked F m s a zero = true
all_marked F m s a (suc n) = is_marked F m s a && all_marked F m s (suc a) n

unfoldable pub written : Form → Map → (address n : ℕ) → Shadows → Shadows × Answer
written F m a n s =
    let r = reading F m s a in
    refuse F m s ((3, eqb n 0) ∷ (4, outside m a) ∷ (8, is_damaged r) ∷ (7, not (in_one n r)) ∷ (13, is_literal r) ∷ []) (mark_all F m s a n, done)

-- ---- ask, kind 5: base, length, offset, and the written bit

-- where there is no block the call is refused, and this is not asked
abbrev pub ask_fields : Reading → Answer
ask_fields nothing = done
ask_fields (block base L offset written literal) = answer 0 base L offset written
ask_fields damaged = done

unfoldable pub ask : Form → Map → (address : ℕ) → Shadows → Shadows × Answer
ask F m a s =
    let r = reading F m s a in
    refuse F m s ((4, outside m a) ∷ (8, is_damaged r) ∷ (7, not (is_block r)) ∷ []) (s, ask_fields r)

-- ---- valid, kind 6: one block has `from` and the n bytes. S-5: and is no literal; kind 15, without `write`, does not ask that

unfoldable pub valid : Form → Map → (write : Bool) (address n from : ℕ) → Shadows → Shadows × Answer
valid F m write a n from s =
    let r = reading F m s a in
    let f = reading F m s from in
    refuse F m s ((3, eqb n 0) ∷ (8, is_damaged r || is_damaged f) ∷ []) (s, yes_no (in_one n r && same_block r f && not (write && is_literal r)))

-- ---- initialised, kind 7: one block has the n bytes, and all of them are written

unfoldable pub initialised : Form → Map → (address n : ℕ) → Shadows → Shadows × Answer
initialised F m a n s =
    let r = reading F m s a in
    refuse F m s ((3, eqb n 0) ∷ (8, is_damaged r) ∷ []) (s, yes_no (in_one n r && all_marked F m s a n))

-- ---- next, kind 8: from the address upwards, through both areas, to a block's first byte or to damage

-- what is read here, or else what the addresses above come to
abbrev pub stops : Reading → (above : Reading) → Reading
stops nothing above = above
stops (block base L zero written literal) above = block base L zero written literal
stops (block base L (suc offset) written literal) above = above
stops damaged above = damaged

-- the n addresses from a on
unfoldable pub climb : (ℕ → Reading) → (a n : ℕ) → Reading
climb rd a zero = nothing
climb rd a (suc n) = stops (rd a) (climb rd (suc a) n)

-- base and length; where none is found the call is refused, and this is not asked
abbrev pub next_fields : Reading → Answer
next_fields nothing = done
next_fields (block base L offset written literal) = answer 0 base L 0 0
next_fields damaged = done

-- above the end of the areas there is no block: from there on no address is left to climb
unfoldable pub next : Form → Map → (address : ℕ) → Shadows → Shadows × Answer
next F m a s =
    let r = climb (reading F m s) a (end_of_areas m - a) in
    refuse F m s ((8, is_damaged r) ∷ (7, not (is_block r)) ∷ []) (s, next_fields r)
