-- The plain list: what each call answers and leaves, worked out from the map's rules, the call's arguments and the live blocks.
-- Nothing comes from shadows or earlier answers. Assumes nothing.
use Rattle.std.specs.Prelude.{not, ◌&&◌, List, [], ◌∷◌, ◌++◌, ℕ, zero, suc, ◌-◌, leb}
use Rattle.std.proofs.Math.Option.{Option, none, some}
use Rattle.number.specs.Bits.{bit}
use Rattle.plain.specs.Block.{Block, len, begun, contains, holds, has_base, is_written, all_written}
use Rattle.plain.specs.Blocks.{find, any, insert, mark_all, count, live}
use Rattle.plain.specs.Blocks as blocks
use Rattle.plain.specs.Rules.{Rules, meets}
use Rattle.plain.specs.Call.{Call, clear, begin, free, remove, written, ask, valid, initialised, next, audit, place, Answer, answer, done, yes_no, Refusal, first_of, unless, by_rules}
use Rattle.plain.specs.Placing.{none_fits, place_answer}

-- the refusals that the live blocks decide: 6 where footprints meet, 7 where there is no such block, 13 where it is a literal, 14 where
-- no gap looked at fits
abbrev pub by_list : Rules → Call → List Block → List Refusal
by_list R (begin h b l) bs = (6, any (meets R b l) bs) ∷ []
by_list R (free zero) bs = []
by_list R (free (suc x)) bs = (7, not (any (has_base (suc x)) bs)) ∷ []
by_list R (remove x) bs = (7, not (any (has_base x) bs)) ∷ []
by_list R (written a n) bs = (7, not (any (holds a n) bs)) ∷ (13, any (λ b. holds a n b && b.literal) bs) ∷ []
by_list R (ask a) bs = (7, not (any (contains a) bs)) ∷ []
by_list R (next a) bs = (7, not (any (λ b. leb a b.base) bs)) ∷ []
by_list R clear bs = []
by_list R (valid w a n from) bs = []
by_list R (initialised a n) bs = []
by_list R audit bs = []
by_list R (place l k) bs = (14, none_fits R.segment l k (R.gaps bs)) ∷ []

-- the live blocks after an accepted call
abbrev pub list_after : Call → List Block → List Block
list_after clear bs = []
list_after (begin h b l) bs = insert (begun h b l) bs
list_after (free zero) bs = bs
list_after (free (suc x)) bs = blocks.remove (suc x) bs
list_after (remove x) bs = blocks.remove x bs
list_after (written a n) bs = mark_all a n bs
list_after (ask a) bs = bs
list_after (valid w a n from) bs = bs
list_after (initialised a n) bs = bs
list_after (next a) bs = bs
list_after audit bs = bs
list_after (place l k) bs = bs

-- base, length, offset, written. Without a block the call is refused, and this is not asked
abbrev pub ask_of : ℕ → Option Block → Answer
ask_of a none = done
ask_of a (some b) = answer 0 b.base (len b) (a - b.base) (bit (is_written b a))

-- base, length. Without a block the call is refused, and this is not asked
abbrev pub next_of : Option Block → Answer
next_of none = done
next_of (some b) = answer 0 b.base (len b) 0 0

-- the answer of an accepted call
abbrev pub list_answer : Rules → Call → List Block → Answer
list_answer R clear bs = done
list_answer R (begin h b l) bs = done
list_answer R (free x) bs = done
list_answer R (remove x) bs = done
list_answer R (written a n) bs = done
list_answer R (ask a) bs = ask_of a (find (contains a) bs)
list_answer R (valid w a n from) bs = yes_no (any (λ b. holds a n b && contains from b && not (w && b.literal)) bs)
list_answer R (initialised a n) bs = yes_no (any (λ b. holds a n b && all_written a n b) bs)
list_answer R (next a) bs = next_of (find (λ b. leb a b.base) bs)
list_answer R audit bs = answer 0 (count R.heap bs) (count (λ a. not (R.heap a)) bs) (live bs) (blocks.written bs)
list_answer R (place l k) bs = place_answer R.segment l k (R.gaps bs)

-- one call on the plain list
unfoldable pub plain_step : Rules → Call → List Block → List Block × Answer
plain_step R c bs = unless (first_of (by_rules R c ++ by_list R c bs)) bs (list_after c bs, list_answer R c bs)
