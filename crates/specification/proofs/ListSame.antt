-- Under a good map the plain list is the one of the demands, for every call and list of blocks. Assumes nothing.
use mathlib.Core.Path.{◌≡◌, refl, sym, ap, ◌∙◌}
use mathlib.Core.Bool.{Bool, true, false, cond, not, ◌&&◌, and-true, and-false, and_comm}
use mathlib.Core.List.{List, [], ◌∷◌, append-nil}
use lib.ListN.{length, take}
use Prim.Native.Nat.{ℕ, zero, suc, ◌+◌, ◌*◌, ◌/◌, ◌%◌}
use native.Mathlib.Omega.{arith}
use lib.Dec.{leb, eqb}
use borrow.Author.Tests.{ne_eqb}
use Rattle.number.specs.Bits.{bit, ones}
use Rattle.number.proofs.TestLaws.{Test, is_true, is_false, test}
use Rattle.map.specs.declared.Map.{Map}
use Rattle.map.specs.declared.Form as kind
use Rattle.map.specs.FormMap.{under, segment_size}
use Rattle.map.specs.Map.{good_map}
use Rattle.plain.specs.Areas as areas
use Rattle.plain.specs.Areas.{map_rules, segments}
use Rattle.plain.specs.Gaps.{Gap, best, gaps_after}
use Rattle.plain.specs.Join.{only}
use Rattle.plain.specs.Block as block
use Rattle.plain.specs.Block.{Block, len, contains, has_base}
use Rattle.plain.specs.Blocks as list
use Rattle.plain.specs.Rules as rules
use Rattle.plain.specs.Call.{Call, clear, begin, free, remove, written, ask, valid, initialised, next, audit, place}
use Rattle.plain.specs.PlainList.{plain_step, list_answer}
use Rattle.plain.proofs.GapLaws as gaps
use Rattle.specification.specs.Map.{heap_end, stack_end, in_heap, in_stack}
use Rattle.specification.specs.Form.{Form}
use Rattle.specification.specs.Footprint.{fits, meets}
use Rattle.specification.specs.Blocks.{holds, all_written, any}
use Rattle.specification.specs.PlainList.{totals, takes, list_gaps, on_list}
use Rattle.specification.proofs.Forms.{form}
use Rattle.specification.proofs.MapSame.{stack_same}
use Rattle.specification.proofs.BlocksSame.{begun-same, holds_same, written_same, any_same, find-same, insert-same, without-same, bytes_same, total-same, best-same}
use Rattle.specification.proofs.PlaceSame.{gaps-after, fields-same}

same_bool : (t : Bool) → cond t true false ≡ t
same_bool true = refl
same_bool false = refl

-- i: in the heap; t: a literal; k: in the stack
fits-tests : (i t k x y z : Bool) → cond i (not t && x && y) (k && z) ≡ (cond i (x && y && i) (z && k) && not (t && cond i true false))
fits-tests true true k x y z = sym (and-false (x && y && true))
fits-tests true false k x y z = rw (and-true (x && y), and-true (x && y))
fits-tests false true k x y z = rw (and-true (z && k)) (and_comm k z)
fits-tests false false k x y z = rw (and-true (z && k)) (and_comm k z)

aligned-tests : (i x : Bool) → (i && not x) ≡ not (cond i x true)
aligned-tests true x = refl
aligned-tests false x = refl

-- only the heap's blocks count
any-only : (p : ℕ → Bool) (t : Block → Bool) (bs : List Block) → any (λ b. p b.base && t b) bs ≡ list.any t (only p bs)
unfolding any list.find only
any-only p t [] = refl
any-only p t (b ∷ bs) = go (test (p b.base)) (test (t b)) (any-only p t bs)
  where
    go : Test (p b.base) → Test (t b) → any (λ c. p c.base && t c) bs ≡ list.any t (only p bs)
        → any (λ c. p c.base && t c) (b ∷ bs) ≡ list.any t (only p (b ∷ bs))
    go (is_true e) (is_true k) r = rw (e, k)
    go (is_true e) (is_false k) r = rw (e, k) r
    go (is_false e) k r = rw e r

module _ (f : kind.Form) (m : Map) where
  abbrev F : Form
  F = form f

  abbrev R : rules.Rules
  R = map_rules (under f m)

  pub totals-same : (bs : List Block) → totals m bs ≡ list_answer R audit bs
  totals-same bs =
      rw (
        total-same (λ b. bit (in_heap m b.base)) (λ b. bit (R.heap b.base)) (λ b. rw (same_bool (in_heap m b.base))) bs,
        total-same (λ b. bit (not (in_heap m b.base))) (λ b. bit (not (R.heap b.base))) (λ b. rw (same_bool (in_heap m b.base))) bs,
        total-same len len (λ b. refl) bs,
        total-same (λ b. ones b.marks) (λ b. ones b.marks) (λ b. refl) bs,
      )

  pub fits-same : (t : Bool) (b l : ℕ) → fits F m t b l ≡ (R.fits b l && not (t && R.heap b))
  fits-same t b l = fits-tests (in_heap m b) t (in_stack m b) (leb (m.heap_start + segment_size f) b) (leb (b + l) (heap_end m)) (leb (b + l) (stack_end m))

  pub aligned-same : (b : ℕ) → (in_heap m b && not (eqb (b % segment_size f) 0)) ≡ not (R.aligned b)
  aligned-same b = aligned-tests (in_heap m b) (eqb (b % segment_size f) 0)

  meets-same : (b l : ℕ) (c : Block) → meets F m b l c ≡ rules.meets R b l c
  unfolding rules.meets segments
  meets-same b l c = refl

  pub gaps-same : (bs : List Block) → list_gaps F m bs ≡ R.gaps bs
  unfolding areas.takes segments
  gaps-same bs =
      let (G, S, n) : ℕ × ℕ × ℕ = (segment_size f, m.heap_start, m.heap_size / segment_size f) in
      let free : ℕ → Bool = λ i. not (list.any (areas.takes G (S + i * G)) (only (in_heap m) bs)) in
      gaps-after f m (λ i. not (any (takes F m (S + i * G)) bs)) n 0 0
      ∙ gaps.gaps-same G S (λ i. not (any (takes F m (S + i * G)) bs)) free n 0 0 (λ i l u. ap not (any-only (in_heap m) (areas.takes G (S + i * G)) bs))
      ∙ sym (append-nil (gaps_after G S free n 0 0))

  pub list_same : good_map (under f m) ≡ true → (c : Call) (bs : List Block) → on_list F m c bs ≡ plain_step R c bs
  unfolding on_list plain_step areas.place_length segments
  list_same g clear bs = refl
  list_same g (begin h b l) bs =
      rw (
        fits-same (block.starts_literal h) b l,
        aligned-same b,
        any_same (meets F m b l) (rules.meets R b l) (meets-same b l) bs,
        begun-same h b l,
        insert-same (block.begun h b l) bs,
      )
  list_same g (free zero) bs = refl
  list_same g (free (suc x)) bs =
      rw (
        ne_eqb (suc x) 0 (λ z. omega arith),
        ← stack_same f m (suc x) g,
        any_same (has_base (suc x)) (has_base (suc x)) (λ b. refl) bs,
        without-same (suc x) bs,
      )
  list_same g (remove x) bs = rw (← stack_same f m x g, any_same (has_base x) (has_base x) (λ b. refl) bs, without-same x bs)
  list_same g (written a n) bs =
      rw (
        any_same (holds a n) (block.holds a n) (holds_same a n) bs,
        any_same (λ b. holds a n b && b.literal) (λ b. block.holds a n b && b.literal) (λ b. rw (holds_same a n b)) bs,
        bytes_same a n bs,
      )
  list_same g (ask a) bs = rw (any_same (contains a) (contains a) (λ b. refl) bs, find-same (contains a) bs)
  list_same g (valid w a n from) bs =
      rw
      (any_same (λ b. holds a n b && contains from b && not (w && b.literal)) (λ b. block.holds a n b && contains from b && not (w && b.literal)) (λ b. rw (holds_same a n b)) bs)
  list_same g (initialised a n) bs =
      rw (any_same (λ b. holds a n b && all_written a n b) (λ b. block.holds a n b && block.all_written a n b) (λ b. rw (holds_same a n b, written_same a n b)) bs)
  list_same g (next a) bs = rw (any_same (λ b. leb a b.base) (λ b. leb a b.base) (λ b. refl) bs, find-same (λ b. leb a b.base) bs)
  list_same g audit bs = rw (totals-same bs)
  list_same g (place l k) bs =
      let gs : List Gap = take k (R.gaps bs) in
      let need : ℕ = areas.place_length (segment_size f) l in
      rw (gaps-same bs, best-same need gs, fields-same f l (length gs) (best need gs))
