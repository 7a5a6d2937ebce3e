-- The calls on a shadow state of whatever layout, by its operations, for any bytes. Their arguments are addresses: free has a case for
-- address 0. Assumes nothing.
use Rattle.std.specs.Prelude.{Bool, true, false, not, ◌&&◌, ◌||◌, List, [], ◌∷◌, ◌++◌, ℕ, zero, suc, ◌+◌, ◌-◌, leb, eqb}
use Rattle.std.proofs.Math.Option.{Option, none, some}
use Rattle.plain.specs.Block.{begun}
use Rattle.plain.specs.Rules.{Rules}
use Rattle.plain.specs.Reading.{Reading, nothing, block, damaged, Tally, tally}
use Rattle.plain.specs.Ops.{Ops, mark_range, range_marked, read_any}
use Rattle.plain.specs.Call.{Call, clear, begin, free, remove, written, ask, valid, initialised, next, audit, place, Answer, answer, done, yes_no, Refusal, first_of, unless, by_rules}
use Rattle.plain.specs.Placing.{none_fits, place_answer}

-- ---- what a reading says

abbrev pub is_damaged : Reading → Bool
is_damaged nothing = false
is_damaged (block b l o m t) = false
is_damaged damaged = true

abbrev pub is_block : Reading → Bool
is_block nothing = false
is_block (block b l o m t) = true
is_block damaged = false

-- a block's first byte
abbrev pub is_first : Reading → Bool
is_first nothing = false
is_first (block b l o m t) = eqb o 0
is_first damaged = false

-- the reading of the first of n bytes gives a block in which they lie
abbrev pub in_one : (n : ℕ) → Reading → Bool
in_one n nothing = false
in_one n (block b l o m t) = leb (o + n) l
in_one n damaged = false

-- a byte of a literal
abbrev pub is_literal : Reading → Bool
is_literal nothing = false
is_literal (block b l o m t) = t
is_literal damaged = false

-- two readings give the same block: base and length are equal, whatever they say of its mark
abbrev pub same_block : Reading → Reading → Bool
same_block (block b l o m t) (block b' l' o' m' t') = eqb b b' && eqb l l'
same_block (block b l o m t) nothing = false
same_block (block b l o m t) damaged = false
same_block nothing r = false
same_block damaged r = false

abbrev pub length_of : Reading → ℕ
length_of nothing = 0
length_of (block b l o m t) = l
length_of damaged = 0

-- ---- the search for the next block: it climbs address by address and ends at the first reading with offset 0, or a damaged one

abbrev pub stop : Reading → Reading → Reading
stop nothing above = above
stop (block b l zero m t) above = block b l zero m t
stop (block b l (suc o) m t) above = above
stop damaged above = damaged

-- the n addresses from a on; nothing where no block begins there
unfoldable pub climb : (ℕ → Reading) → (a n : ℕ) → Reading
climb rd a zero = nothing
climb rd a (suc n) = let above = climb rd (suc a) n in stop (rd a) above

-- ---- the calls

abbrev pub is_none : Option Tally → Bool
is_none none = true
is_none (some t) = false

-- what an accepted call answers. Where there is no block, or damage, the call is refused, and this is not asked
abbrev pub ask_answer : Reading → Answer
ask_answer nothing = done
ask_answer (block b l o m t) = answer 0 b l o m
ask_answer damaged = done

abbrev pub next_answer : Reading → Answer
next_answer nothing = done
next_answer (block b l o m t) = answer 0 b l 0 0
next_answer damaged = done

abbrev pub audit_answer : Option Tally → Answer
audit_answer none = done
audit_answer (some (tally h k l w)) = answer 0 h k l w

module _ {S : Type 0} (R : Rules) (O : Ops S) where
  abbrev pub reading : S → ℕ → Reading
  reading s a = read_any R O s a

  -- every address from a on; above the last area there is no block
  abbrev pub search : S → ℕ → Reading
  search s a = climb (reading s) a (R.top - a)

  -- free and remove end a block that is to have this base: 8 where the reading there is damaged, 7 where it is not a block's first byte
  abbrev pub by_base : S → ℕ → List Refusal
  by_base s x = (8, is_damaged (reading s x)) ∷ (7, not (is_first (reading s x))) ∷ []

  -- else its place becomes zero
  abbrev pub erased : S → ℕ → S
  erased s x = O.erase s x (length_of (reading s x))

  -- the refusals that the shadows decide: 6 where the place is not zero, 8 where a reading is damaged, 7 where there is no such block, 13
  -- where it is a literal, 14 where no gap looked at fits. 8 is tried before 7, which is never given where 8 holds
  abbrev pub by_shadows : Call → S → List Refusal
  by_shadows clear s = []
  by_shadows (begin h b l) s = (6, not (O.vacant s b l)) ∷ []
  by_shadows (free zero) s = []
  by_shadows (free (suc x)) s = by_base s (suc x)
  by_shadows (remove x) s = by_base s x
  by_shadows (written a n) s = (8, is_damaged (reading s a)) ∷ (7, not (in_one n (reading s a))) ∷ (13, is_literal (reading s a)) ∷ []
  by_shadows (ask a) s = (8, is_damaged (reading s a)) ∷ (7, not (is_block (reading s a))) ∷ []
  by_shadows (valid w a n from) s = (8, is_damaged (reading s a) || is_damaged (reading s from)) ∷ []
  by_shadows (initialised a n) s = (8, is_damaged (reading s a)) ∷ []
  by_shadows (next a) s = (8, is_damaged (search s a)) ∷ (7, not (is_block (search s a))) ∷ []
  by_shadows audit s = (8, is_none (O.audit s)) ∷ []
  by_shadows (place l k) s = (14, none_fits R.segment l k (O.gaps s)) ∷ []

  -- the shadows after an accepted call
  abbrev pub shadows_after : Call → S → S
  shadows_after clear s = O.cleared
  shadows_after (begin h b l) s = O.stamp s (begun h b l)
  shadows_after (free zero) s = s
  shadows_after (free (suc x)) s = erased s (suc x)
  shadows_after (remove x) s = erased s x
  shadows_after (written a n) s = mark_range O s a n
  shadows_after (ask a) s = s
  shadows_after (valid w a n from) s = s
  shadows_after (initialised a n) s = s
  shadows_after (next a) s = s
  shadows_after audit s = s
  shadows_after (place l k) s = s

  -- the answer of an accepted call
  abbrev pub shadow_answer : Call → S → Answer
  shadow_answer clear s = done
  shadow_answer (begin h b l) s = done
  shadow_answer (free x) s = done
  shadow_answer (remove x) s = done
  shadow_answer (written a n) s = done
  shadow_answer (ask a) s = ask_answer (reading s a)
  shadow_answer (valid w a n from) s = yes_no (in_one n (reading s a) && same_block (reading s a) (reading s from) && not (w && is_literal (reading s a)))
  shadow_answer (initialised a n) s = yes_no (in_one n (reading s a) && range_marked O s a n)
  shadow_answer (next a) s = next_answer (search s a)
  shadow_answer audit s = audit_answer (O.audit s)
  shadow_answer (place l k) s = place_answer R.segment l k (O.gaps s)

  -- one call on the shadows
  unfoldable pub shadow_step : Call → S → S × Answer
  shadow_step c s = unless (first_of (by_rules R c ++ by_shadows c s)) s (shadows_after c s, shadow_answer c s)
