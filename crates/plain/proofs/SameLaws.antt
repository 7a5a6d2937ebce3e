-- On the image of a placed list, each call does what the plain list does. Assumes nothing.
use mathlib.Core.Path.{◌≡◌, refl, ap, ◌∙◌, fun_ext}
use mathlib.Core.Bool.{Bool, true, false, cond, ◌&&◌, ◌||◌, not}
use mathlib.Core.List.{List}
use mathlib.Core.Logic.{◌≢◌}
use mathlib.Core.Option.{Option, none, some}
use Prim.Native.Nat.{ℕ, zero, suc, ◌+◌, ◌-◌, ◌≤◌, ◌<◌}
use native.Mathlib.Omega.{arith}
use lib.Dec.{leb, eqb}
use borrow.Author.Tests.{eq-eqb, ne_eqb, eqb-true, eqb-false}
use Rattle.number.specs.Bits.{bit}
use Rattle.number.proofs.TestLaws.{Test, is_true, is_false, test, and-true, same_test, false_of}
use Rattle.plain.specs.Block.{Block, len, contains, holds, has_base, is_written, all_written}
use Rattle.plain.specs.Blocks.{find, found, mark_one, mark_all}
use Rattle.plain.specs.Rules.{Rules, Placed, Sound}
use Rattle.plain.specs.Reading.{Reading, nothing, block, says, lookup}
use Rattle.plain.specs.Ops.{Ops, mark_range, range_marked, read_any}
use Rattle.plain.specs.Images.{Images}
use Rattle.plain.specs.Call.{Call, clear, begin, free, remove, written, ask, valid, initialised, next, audit, place, Answer, done, yes_no, unless}
use Rattle.plain.specs.Placing.{none_fits, place_answer}
use Rattle.plain.specs.PlainList.{ask_of, next_of, plain_step}
use Rattle.plain.specs.ShadowCalls.{is_damaged, is_block, in_one, is_literal, same_block, stop, climb, ask_answer, next_answer, shadow_step}
use Rattle.plain.proofs.BlockLaws.{contains-true, true-contains, holds-true, true-holds, holds-one, base-holds, offset-test}
use Rattle.plain.proofs.FindLaws.{keep_if, find_at, find-facts, find-other, first-here, none-top, first-up, mark-find}
use Rattle.plain.proofs.KeptLaws.{mark-placed}
use Rattle.plain.proofs.ReadBackLaws.{image-reads}
use Rattle.plain.proofs.BeginLaws.{begin-same}
use Rattle.plain.proofs.EndLaws.{free-same, remove-same}

-- the reading that a search ends with
abbrev start : Option Block → Reading
start none = nothing
start (some b) = block b.base (len b) 0 (bit (is_written b b.base)) b.literal

module _ {S : Type 0} (R : Rules) (G : Sound R) (O : Ops S) (image : List Block → S) (I : Images R O image) where
  abbrev both : List Block × Answer → S × Answer
  both r = (image r.0, r.1)

  module _ (bs : List Block) (P : Placed R 0 bs) where
    reads : (a : ℕ) → read_any R O (image bs) a ≡ lookup bs a
    reads = image-reads R G O image I bs P

    facts : (a : ℕ) (b : Block) → find (contains a) bs ≡ some b → (b.base ≤ a) × (a < b.base + len b)
    facts a b e = contains-true a b (find-facts R G bs 0 (contains a) b P e).so

    inside_of : (a : ℕ) (b : Block) → find (contains a) bs ≡ some b → R.inside a ≡ true
    inside_of a b e =
        let h = facts a b e in G.in_inside b.base (len b) a (find-facts R G bs 0 (contains a) b P e).fits h.0 h.1

    clear-same : shadow_step R O clear (image bs) ≡ both (plain_step R clear bs)
    unfolding shadow_step plain_step
    clear-same = rw I.image_nil

    ask-same : (a : ℕ) → shadow_step R O (ask a) (image bs) ≡ both (plain_step R (ask a) bs)
    unfolding shadow_step plain_step
    ask-same a = rw (reads a) (go (R.inside a) (find (contains a) bs))
      where
        go : (t : Bool) (o : Option Block)
            → unless (cond (not t) 4 (cond (is_damaged (says a o)) 8 (cond (not (is_block (says a o))) 7 0))) (image bs) (image bs, ask_answer (says a o))
            ≡ both (unless (cond (not t) 4 (cond (not (found o)) 7 0)) bs (bs, ask_of a o))
        go true none = refl
        go true (some b) = refl
        go false o = refl

    audit-same : shadow_step R O audit (image bs) ≡ both (plain_step R audit bs)
    unfolding shadow_step plain_step
    audit-same = rw (I.image_audit bs P)

    place_same : (l k : ℕ) → shadow_step R O (place l k) (image bs) ≡ both (plain_step R (place l k) bs)
    unfolding shadow_step plain_step
    place_same l k = rw (I.image_gaps bs P) (go (eqb l 0) (none_fits R.segment l k (R.gaps bs)))
      where
        go : (t u : Bool)
            → unless (cond t 3 (cond u 14 0)) (image bs) (image bs, place_answer R.segment l k (R.gaps bs))
            ≡ both (unless (cond t 3 (cond u 14 0)) bs (bs, place_answer R.segment l k (R.gaps bs)))
        go true u = refl
        go false true = refl
        go false false = refl

    -- ---- ranges of bytes

    marked-same : (a : ℕ) (b : Block) → find (contains a) bs ≡ some b → O.marked (image bs) a ≡ is_written b a
    marked-same a b e = I.image_marked bs P a b (inside_of a b e) e

    range-marked : (n a : ℕ) (b : Block) → find (contains a) bs ≡ some b → holds a n b ≡ true → range_marked O (image bs) a n ≡ all_written a n b
    unfolding range_marked all_written
    range-marked zero a b e h = refl
    range-marked (suc zero) a b e h = rw (marked-same a b e)
    range-marked (suc (suc n)) a b e h =
        let hh = holds-true a (suc (suc n)) b h in
        rw (
          marked-same a b e,
          range-marked (suc n) (suc a) b
              (find-other R G bs a (suc a) b P e (true-contains (suc a) b (omega arith) (omega arith)))
              (true-holds (suc a) (suc n) b (omega arith) (omega arith)),
        )

    initialised-same : (a n : ℕ) → shadow_step R O (initialised a n) (image bs) ≡ both (plain_step R (initialised a n) bs)
    unfolding shadow_step plain_step
    initialised-same a n = rw (reads a) (go (test (eqb n 0)) (find (contains a) bs) refl)
      where
        p : Block → Bool
        p b = holds a n b && all_written a n b

        only_at : n ≢ 0 → find p bs ≡ keep_if p (find (contains a) bs)
        only_at k = find_at R G bs 0 a p P (λ c l w. holds-one a n c (omega arith) (and-true (holds a n c) (all_written a n c) w).0)

        same : (b : Block) → find (contains a) bs ≡ some b → Test (holds a n b)
            → (holds a n b && range_marked O (image bs) a n) ≡ found (cond (p b) (some b) none)
        same b e (is_true h) = rw (h, range-marked n a b e h) (tell (all_written a n b))
          where
            tell : (t : Bool) → t ≡ found (cond t (some b) none)
            tell true = refl
            tell false = refl
        same b e (is_false h) = rw h

        go : Test (eqb n 0) → (o : Option Block) → find (contains a) bs ≡ o
            → unless (cond (eqb n 0) 3 (cond (is_damaged (says a o)) 8 0)) (image bs) (image bs, yes_no (in_one n (says a o) && range_marked O (image bs) a n))
            ≡ both (unless (cond (eqb n 0) 3 0) bs (bs, yes_no (found (find p bs))))
        go (is_true k) o e = rw k
        go (is_false k) none e = rw (k, only_at (eqb-false n 0 k), e)
        go (is_false k) (some b) e =
            rw (k, only_at (eqb-false n 0 k), e, offset-test a n b (facts a b e).0, same b e (test (holds a n b)))

    valid_same : (w : Bool) (a n from : ℕ) → shadow_step R O (valid w a n from) (image bs) ≡ both (plain_step R (valid w a n from) bs)
    unfolding shadow_step plain_step
    valid_same w a n from =
        ap (λ (r : Reading). by r (read_any R O (image bs) from)) (reads a) ∙ ap (by (lookup bs a)) (reads from)
        ∙ go (test (eqb n 0)) (find (contains a) bs) refl (find (contains from) bs) refl
      where
        by : Reading → Reading → S × Answer
        by r q = unless (cond (eqb n 0) 3 (cond (is_damaged r || is_damaged q) 8 0)) (image bs) (image bs, yes_no (in_one n r && same_block r q && not (w && is_literal r)))

        p : Block → Bool
        p b = holds a n b && contains from b && not (w && b.literal)

        only_at : n ≢ 0 → find p bs ≡ keep_if p (find (contains a) bs)
        only_at k = find_at R G bs 0 a p P (λ c l u.
            holds-one a n c (omega arith)
            (and-true (holds a n c) (contains from c) (and-true (holds a n c && contains from c) (not (w && c.literal)) u).0).0)

        elsewhere : (b : Block) → find (contains a) bs ≡ some b → find (contains from) bs ≡ none → contains from b ≡ false
        elsewhere b e g =
            false_of (contains from b) (λ t. let y = find-other R G bs a from b P e t in let z : ◌≡◌ {A = ℕ} 0 1 = cc in omega arith)

        one_block : (b c : Block) → find (contains a) bs ≡ some b → find (contains from) bs ≡ some c
            → (eqb b.base c.base && eqb (len b) (len c)) ≡ contains from b
        one_block b c e g =
            same_test (eqb b.base c.base && eqb (len b) (len c)) (contains from b)
            (λ t. let u = and-true (eqb b.base c.base) (eqb (len b) (len c)) t in
            let x : b.base ≡ c.base = eqb-true b.base c.base u.0 in
            let y : len b ≡ len c = eqb-true (len b) (len c) u.1 in
            let z = facts from c g in true-contains from b (omega arith) (omega arith))
            (λ t. let y = find-other R G bs a from b P e t in
            let x : b ≡ c = cc in
            rw (eq-eqb b.base c.base (ap (λ (d : Block). d.base) x), eq-eqb (len b) (len c) (ap (λ (d : Block). len d) x)))

        tell : (b : Block) (t : Bool) → t ≡ found (cond t (some b) none)
        tell b true = refl
        tell b false = refl

        neither : (t : Bool) → (t && false) ≡ false
        neither true = refl
        neither false = refl

        go : Test (eqb n 0) → (o : Option Block) → find (contains a) bs ≡ o → (q : Option Block) → find (contains from) bs ≡ q
            → by (says a o) (says from q) ≡ both (unless (cond (eqb n 0) 3 0) bs (bs, yes_no (found (find p bs))))
        go (is_true k) o e q g = rw k
        go (is_false k) none e none g = rw (k, only_at (eqb-false n 0 k), e)
        go (is_false k) none e (some c) g = rw (k, only_at (eqb-false n 0 k), e)
        go (is_false k) (some b) e none g =
            rw (k, only_at (eqb-false n 0 k), e, elsewhere b e g, neither (holds a n b), neither (leb (a - b.base + n) (len b)))
        go (is_false k) (some b) e (some c) g =
            rw (k, only_at (eqb-false n 0 k), e, offset-test a n b (facts a b e).0, one_block b c e g, ← tell b (p b))

    -- ---- the search

    climb-same : (n a : ℕ) → R.top ≤ a + n
        → climb (lookup bs) a n ≡ start (find (λ b. leb a b.base) bs)
    unfolding climb
    climb-same zero a h = rw (none-top R G bs 0 a P (omega arith))
    climb-same (suc n) a h = rw (climb-same n (suc a) (omega arith)) (go (find (contains a) bs) refl)
      where
        q : find (has_base a) bs ≡ keep_if (has_base a) (find (contains a) bs)
        q = find_at R G bs 0 a (has_base a) P (λ c l w. base-holds a c l w)

        above : Reading
        above = start (find (λ b. leb (suc a) b.base) bs)

        go : (o : Option Block) → find (contains a) bs ≡ o → stop (says a o) above ≡ start (find (λ b. leb a b.base) bs)
        go none e = rw (first-up bs a (q ∙ rw e))
        go (some b) e = by-offset (a - b.base) refl
          where
            by-offset : (k : ℕ) → a - b.base ≡ k → stop (block b.base (len b) k (bit (is_written b a)) b.literal) above ≡ start (find (λ d. leb a d.base) bs)
            by-offset zero z =
                let e' : b.base ≡ a = omega (arith, facts a b e, z) in
                rw (first-here R G bs 0 a b P e e', e')
            by-offset (suc k) z = rw (first-up bs a (q ∙ rw (e, ne_eqb b.base a (omega (arith, z)))))

    next-same : (a : ℕ) → shadow_step R O (next a) (image bs) ≡ both (plain_step R (next a) bs)
    unfolding shadow_step plain_step
    next-same a =
        ap by (ap (λ (rd : ℕ → Reading). climb rd a (R.top - a)) (fun_ext reads) ∙ climb-same (R.top - a) a (omega arith))
        ∙ go (find (λ b. leb a b.base) bs)
      where
        by : Reading → S × Answer
        by r = unless (cond (is_damaged r) 8 (cond (not (is_block r)) 7 0)) (image bs) (image bs, next_answer r)

        go : (o : Option Block) → by (start o) ≡ both (unless (cond (not (found o)) 7 0) bs (bs, next_of o))
        go none = refl
        go (some b) = refl

  -- ---- marking

  mark-same : (a : ℕ) (bs : List Block) → Placed R 0 bs → (b : Block) → find (contains a) bs ≡ some b → O.mark (image bs) a ≡ image (mark_one a bs)
  mark-same a bs P b e = I.image_mark bs P a b (inside_of bs P a b e) e

  range_same : (n a : ℕ) (bs : List Block) → Placed R 0 bs → (b : Block) → find (contains a) bs ≡ some b → holds a n b ≡ true
      → mark_range O (image bs) a n ≡ image (mark_all a n bs)
  unfolding mark_range mark_all
  range_same zero a bs P b e h = refl
  range_same (suc zero) a bs P b e h = mark-same a bs P b e
  range_same (suc (suc n)) a bs P b e h =
      let hh = holds-true a (suc (suc n)) b h in
      let e' = find-other R G bs a (suc a) b P e (true-contains (suc a) b (omega arith) (omega arith)) in
      let d = mark-find a (suc a) bs b e' in
      rw (mark-same a bs P b e)
      (range_same (suc n) (suc a) (mark_one a bs) (mark-placed R a bs 0 P) d.0 d.1 (true-holds (suc a) (suc n) d.0 (omega arith) (omega arith)))

  module _ (bs : List Block) (P : Placed R 0 bs) where
    written_same : (a n : ℕ) → shadow_step R O (written a n) (image bs) ≡ both (plain_step R (written a n) bs)
    unfolding shadow_step plain_step
    written_same a n = rw (reads bs P a) (go (test (eqb n 0)) (test (R.inside a)) (find (contains a) bs) refl)
      where
        only_at : n ≢ 0 → find (holds a n) bs ≡ keep_if (holds a n) (find (contains a) bs)
        only_at k = find_at R G bs 0 a (holds a n) P (λ c l w. holds-one a n c (omega arith) w)

        -- a literal that holds the range
        p : Block → Bool
        p b = holds a n b && b.literal

        only-literal : n ≢ 0 → find p bs ≡ keep_if p (find (contains a) bs)
        only-literal k = find_at R G bs 0 a p P (λ c l w. holds-one a n c (omega arith) (and-true (holds a n c) c.literal w).0)

        at_block : (b : Block) → find (contains a) bs ≡ some b → Test (holds a n b) → Test b.literal
            → unless (cond (not (holds a n b)) 7 (cond b.literal 13 0)) (image bs) (mark_range O (image bs) a n, done)
            ≡ both (unless (cond (not (found (cond (holds a n b) (some b) none))) 7 (cond (found (cond (p b) (some b) none)) 13 0)) bs (mark_all a n bs, done))
        at_block b e (is_true h) (is_true t) = rw (h, t)
        at_block b e (is_true h) (is_false t) = rw (h, t, range_same n a bs P b e h)
        at_block b e (is_false h) t = rw h

        go : Test (eqb n 0) → Test (R.inside a) → (o : Option Block) → find (contains a) bs ≡ o
            → unless (cond (eqb n 0) 3 (cond (not (R.inside a)) 4 (cond (is_damaged (says a o)) 8 (cond (not (in_one n (says a o))) 7 (cond (is_literal (says a o)) 13 0)))))
            (image bs) (mark_range O (image bs) a n, done)
            ≡ both (unless (cond (eqb n 0) 3 (cond (not (R.inside a)) 4 (cond (not (found (find (holds a n) bs))) 7 (cond (found (find p bs)) 13 0)))) bs
            (mark_all a n bs, done))
        go (is_true k) i o e = rw k
        go (is_false k) (is_false i) o e = rw (k, i)
        go (is_false k) (is_true i) none e = rw (k, i, only_at (eqb-false n 0 k), e)
        go (is_false k) (is_true i) (some b) e =
            rw (k, i, only_at (eqb-false n 0 k), only-literal (eqb-false n 0 k), e, offset-test a n b (facts bs P a b e).0)
            (at_block b e (test (holds a n b)) (test b.literal))

    -- every call
    pub step_same : (c : Call) → shadow_step R O c (image bs) ≡ both (plain_step R c bs)
    step_same clear = clear-same bs P
    step_same (begin h b l) = begin-same R O image I bs P h b l
    step_same (free x) = free-same R G O image I bs P x
    step_same (remove x) = remove-same R G O image I bs P x
    step_same (written a n) = written_same a n
    step_same (ask a) = ask-same bs P a
    step_same (valid w a n from) = valid_same bs P w a n from
    step_same (initialised a n) = initialised-same bs P a n
    step_same (next a) = next-same bs P a
    step_same audit = audit-same bs P
    step_same (place l k) = place_same bs P l k
