-- Document 01, the numbers of refusal as its table has them, with the rows of S-5, S-6 and S-7: for each number, which calls have it and when. The
-- calls list their own numbers instead (Calls.antt); Votes.antt says that both agree. The tests are the same. 9 and 10 are the
-- calls program's, 11 and 12 are S-4's. Assumes nothing.
use Rattle.std.specs.Prelude.{Bool, true, false, not, ◌&&◌, ◌||◌, List, [], ◌∷◌, ℕ, zero, suc, ◌-◌, ◌%◌, take, leb, eqb}
use Rattle.types.specs.Gap.{Gap}
use Rattle.types.specs.Reading.{Reading}
use Rattle.types.specs.Call.{Call, clear, begin, free, remove, written, ask, valid, initialised, next, audit, place, Refusal}
use Rattle.specification.specs.Map.{Map, Shadows, heap_of, right_lengths, in_heap, in_stack, outside, end_of_areas}
use Rattle.specification.specs.Form.{Form}
use Rattle.specification.specs.Readings.{reading, is_damaged, is_block, is_first, in_one, is_literal}
use Rattle.specification.specs.Footprint.{place_length, fits}
use Rattle.specification.specs.Calls.{is_for_literal, vacant}
use Rattle.specification.specs.Place.{gaps}
use Rattle.specification.specs.Audit.{list_of, is_image}

-- 3: a length or n of 0. S-6: place too
abbrev pub row3 : Call → Bool
row3 clear = false
row3 (begin how b L) = eqb L 0
row3 (free b) = false
row3 (remove b) = false
row3 (written a n) = eqb n 0
row3 (ask a) = false
row3 (valid write a n from) = eqb n 0
row3 (initialised a n) = eqb n 0
row3 (next a) = false
row3 audit = false
row3 (place L budget) = eqb L 0

-- 4: an address in neither area; of a recording a block that does not fit. S-2: not free of 0. S-7: remove outside the stack
abbrev pub row4 : Form → Map → Call → Bool
row4 F m clear = false
row4 F m (begin how b L) = not (fits F m (is_for_literal how) b L)
row4 F m (free b) = outside m b && not (eqb b 0)
row4 F m (remove b) = not (in_stack m b)
row4 F m (written a n) = outside m a
row4 F m (ask a) = outside m a
row4 F m (valid write a n from) = false
row4 F m (initialised a n) = false
row4 F m (next a) = false
row4 F m audit = false
row4 F m (place L budget) = false

-- conditions that one of these calls has; every other call has none
abbrev pub when : (begin : (base L : ℕ) → Bool) (free : (base : ℕ) → Bool) (written : (a n : ℕ) → Bool) (place : (L budget : ℕ) → Bool) → Call → Bool
when r f w p clear = false
when r f w p (begin how b L) = r b L
when r f w p (free b) = f b
when r f w p (remove b) = false
when r f w p (written a n) = w a n
when r f w p (ask a) = false
when r f w p (valid write a n from) = false
when r f w p (initialised a n) = false
when r f w p (next a) = false
when r f w p audit = false
when r f w p (place L budget) = p L budget

abbrev pub never : (a : ℕ) → Bool
never a = false

abbrev pub neither : (a n : ℕ) → Bool
neither a n = false

-- 5, record: a heap base that is no multiple of the segment
abbrev pub row5 : Form → Map → Call → Bool
row5 F m c = when (λ b L. in_heap m b && not (eqb (b % F.segment) 0)) never neither neither c

-- 6, record: a shadow byte of the place is not zero
abbrev pub row6 : Form → Map → Shadows → Call → Bool
row6 F m s c = when (λ b L. not (vacant F m s b L)) never neither neither c

-- 15, S-7, free: a stack address. S-2: address 0 is none
abbrev pub row15 : Map → Call → Bool
row15 m c = when neither (λ b. in_stack m b && not (eqb b 0)) neither neither c

-- of the n addresses from a on, one is damaged and none below it is a block's first byte; none is a block's first byte
unfoldable pub damaged_first : (ℕ → Reading) → (a n : ℕ) → Bool
damaged_first rd a zero = false
damaged_first rd a (suc n) = is_damaged (rd a) || (not (is_first (rd a)) && damaged_first rd (suc a) n)

unfoldable pub none_begins : (ℕ → Reading) → (a n : ℕ) → Bool
none_begins rd a zero = true
none_begins rd a (suc n) = not (is_first (rd a)) && none_begins rd (suc a) n

-- 8: a damaged reading: of valid either, of written and initialised the first byte's, of next one that is met before an answer; of audit no image. S-2:
-- free of 0 takes no reading
abbrev pub row8 : Form → Map → Shadows → Call → Bool
row8 F m s clear = false
row8 F m s (begin how b L) = false
row8 F m s (free b) = is_damaged (reading F m s b) && not (eqb b 0)
row8 F m s (remove b) = is_damaged (reading F m s b)
row8 F m s (written a n) = is_damaged (reading F m s a)
row8 F m s (ask a) = is_damaged (reading F m s a)
row8 F m s (valid write a n from) = is_damaged (reading F m s a) || is_damaged (reading F m s from)
row8 F m s (initialised a n) = is_damaged (reading F m s a)
row8 F m s (next a) = damaged_first (reading F m s) a (end_of_areas m - a)
row8 F m s audit = not (is_image F m s (list_of F m s))
row8 F m s (place L budget) = false

-- 7: no block there; of free and remove not a block's first byte, of written not in one block, of next none that follows
abbrev pub row7 : Form → Map → Shadows → Call → Bool
row7 F m s clear = false
row7 F m s (begin how b L) = false
row7 F m s (free b) = not (is_first (reading F m s b)) && not (eqb b 0)
row7 F m s (remove b) = not (is_first (reading F m s b))
row7 F m s (written a n) = not (in_one n (reading F m s a))
row7 F m s (ask a) = not (is_block (reading F m s a))
row7 F m s (valid write a n from) = false
row7 F m s (initialised a n) = false
row7 F m s (next a) = none_begins (reading F m s) a (end_of_areas m - a)
row7 F m s audit = false
row7 F m s (place L budget) = false

-- 13, S-5, written: in a literal
abbrev pub row13 : Form → Map → Shadows → Call → Bool
row13 F m s c = when neither never (λ a n. is_literal (reading F m s a)) neither c

-- none of the gaps holds so many bytes
unfoldable pub none_holds : (need : ℕ) → List Gap → Bool
none_holds need [] = true
none_holds need (g ∷ gs) = not (leb need g.bytes) && none_holds need gs

-- 14, S-6, place: no gap that is looked at holds header and block
abbrev pub row14 : Form → Map → Shadows → Call → Bool
row14 F m s c = when neither never neither (λ L budget. none_holds (place_length F L) (take budget (gaps F m (heap_of s)))) c

-- the rows in the order in which their numbers win: the lowest first, but 15 after 4 and before 8 and 7 (S-7), and 7 after 8
abbrev pub rows : Form → Map → Call → Shadows → List Refusal
rows F m c s =
    (1, not (F.good m)) ∷ (2, not (right_lengths m s)) ∷ (3, row3 c) ∷ (4, row4 F m c) ∷ (5, row5 F m c) ∷ (6, row6 F m s c)
    ∷ (15, row15 m c) ∷ (8, row8 F m s c) ∷ (7, row7 F m s c) ∷ (13, row13 F m s c) ∷ (14, row14 F m s c) ∷ []
