-- The blocks of one area among all: every question and every change is that area's own. Assumes nothing.
use mathlib.Core.Path.{◌≡◌, refl, sym, ap, ◌∙◌}
use mathlib.Core.Bool.{Bool, true, false, cond, not}
use mathlib.Core.List.{List, [], ◌∷◌}
use mathlib.Core.Option.{some}
use Prim.Native.Nat.{ℕ, ◌+◌, ◌≤◌, ◌<◌}
use native.Mathlib.Omega.{arith}
use lib.Dec.{ltb}
use borrow.Author.Tests.{lt-ltb, ltb-true, eqb-true}
use Rattle.number.proofs.TestLaws.{Test, is_true, is_false, test, and-true, not-both, false_of}
use Rattle.plain.specs.Block.{Block, len, contains, has_base, is_written, mark_block}
use Rattle.plain.specs.Blocks.{find, any, insert, remove, mark_one}
use Rattle.plain.specs.Rules.{Rules, meets, Placed, Sound}
use Rattle.plain.specs.Reading.{says, lookup}
use Rattle.plain.specs.Ops.{Ops}
use Rattle.plain.specs.Images.{Images}
use Rattle.plain.specs.Join.{only}
use Rattle.plain.proofs.BlockLaws.{contains-true}
use Rattle.plain.proofs.KeptLaws.{weaken, low-high}

-- A is a part of R
pub record Part (R A : Rules) : Type 0 where
  pub p-fits : (b l : ℕ) → A.inside b ≡ true → R.fits b l ≡ A.fits b l
  pub p-aligned : (b : ℕ) → A.inside b ≡ true → R.aligned b ≡ A.aligned b
  pub p-heap : (b : ℕ) → A.inside b ≡ true → R.heap b ≡ A.heap b
  pub p-low : (b l : ℕ) → A.inside b ≡ true → R.low b l ≡ A.low b l
  pub p-high : (b l : ℕ) → A.inside b ≡ true → R.high b l ≡ A.high b l
  -- a block's addresses are all A's or none
  pub p-own : (b l a : ℕ) → A.inside b ≡ true → R.fits b l ≡ true → b ≤ a → a < b + l → A.inside a ≡ true
  pub p-other : (b l a : ℕ) → A.inside b ≡ false → R.fits b l ≡ true → b ≤ a → a < b + l → A.inside a ≡ false
  pub p-apart : (b l b' l' : ℕ) → 1 ≤ l → 1 ≤ l' → A.inside b ≡ true → R.fits b l ≡ true → R.aligned b ≡ true → A.inside b' ≡ false → R.fits b' l' ≡ true → R.aligned b' ≡ true
      → R.low b l < R.high b' l' → R.low b' l' < R.high b l → ⊥

-- a block that keeps the placing rules
pub record Ok (R : Rules) (c : Block) : Type 0 where
  pub some : 1 ≤ len c
  pub fits : R.fits c.base (len c) ≡ true
  pub aligned : R.aligned c.base ≡ true

-- the blocks that begin in A
abbrev pub blocks_of : Rules → List Block → List Block
blocks_of A bs = only A.inside bs

-- ---- a block of another area joins; a block goes

pub insert-other : (A : Rules) (b : Block) (bs : List Block) → A.inside b.base ≡ false → blocks_of A (insert b bs) ≡ blocks_of A bs
unfolding only insert
insert-other A b [] i = rw i
insert-other A b (c ∷ cs) i = go (ltb b.base c.base) (insert-other A b cs i)
  where
    go : (s : Bool) → blocks_of A (insert b cs) ≡ blocks_of A cs
        → blocks_of A (cond s (b ∷ c ∷ cs) (c ∷ insert b cs)) ≡ cond (A.inside c.base) (c ∷ blocks_of A cs) (blocks_of A cs)
    go true ih = rw i
    go false ih = rw ih

pub remove-mine : (A : Rules) (x : ℕ) (bs : List Block) → A.inside x ≡ true → blocks_of A (remove x bs) ≡ remove x (blocks_of A bs)
unfolding only remove
remove-mine A x [] i = refl
remove-mine A x (c ∷ cs) i = go (test (has_base x c)) (test (A.inside c.base)) (remove-mine A x cs i)
  where
    go : Test (has_base x c) → Test (A.inside c.base) → blocks_of A (remove x cs) ≡ remove x (blocks_of A cs)
        → blocks_of A (cond (has_base x c) cs (c ∷ remove x cs)) ≡ remove x (cond (A.inside c.base) (c ∷ blocks_of A cs) (blocks_of A cs))
    go (is_true s) (is_true t) ih = rw (s, t, s)
    go (is_true s) (is_false t) ih = absurd (not-both (A.inside x) i (rw (eqb-true c.base x s) at t))
    go (is_false s) (is_true t) ih = rw (s, t, s, ih)
    go (is_false s) (is_false t) ih = rw (s, t, ih)

pub remove-other : (A : Rules) (x : ℕ) (bs : List Block) → A.inside x ≡ false → blocks_of A (remove x bs) ≡ blocks_of A bs
unfolding only remove
remove-other A x [] i = refl
remove-other A x (c ∷ cs) i = go (test (has_base x c)) (remove-other A x cs i)
  where
    go : Test (has_base x c) → blocks_of A (remove x cs) ≡ blocks_of A cs
        → blocks_of A (cond (has_base x c) cs (c ∷ remove x cs)) ≡ cond (A.inside c.base) (c ∷ blocks_of A cs) (blocks_of A cs)
    go (is_true s) ih = rw (s, ap A.inside (eqb-true c.base x s), i)
    go (is_false s) ih = rw (s, ih)

module _ (R A : Rules) (G : Sound R) (P : Part R A) where
  pub only-placed : (bs : List Block) (from : ℕ) → Placed R from bs → Placed A from (blocks_of A bs)
  unfolding only
  only-placed [] from Q = tt
  only-placed (c ∷ cs) from Q = go (test (A.inside c.base)) (only-placed cs (R.high c.base (len c)) Q.later)
    where
      go : Test (A.inside c.base) → Placed A (R.high c.base (len c)) (blocks_of A cs)
          → Placed A from (cond (A.inside c.base) (c ∷ blocks_of A cs) (blocks_of A cs))
      go (is_true t) ih =
          rw t (record {
            some = Q.some;
            fits = rw (← (P.p-fits c.base (len c) t)) Q.fits;
            aligned = rw (← (P.p-aligned c.base t)) Q.aligned;
            proper = λ h. (rw (← (P.p-heap c.base t)) (Q.proper h).0, (Q.proper h).1);
            room = rw (← (P.p-low c.base (len c) t)) Q.room;
            later = rw (← (P.p-high c.base (len c) t)) ih;
          })
      go (is_false t) ih =
          rw t (weaken A (blocks_of A cs) (R.high c.base (len c)) from (omega (arith, low-high R G c.base (len c) Q.fits, Q.room)) ih)

  -- what no other area's block is, is found among A's
  pub only-find : (q q' : Block → Bool) → ((c : Block) → Ok R c → A.inside c.base ≡ false → q c ≡ false) → ((c : Block) → A.inside c.base ≡ true → q c ≡ q' c)
      → (bs : List Block) (from : ℕ) → Placed R from bs → find q bs ≡ find q' (blocks_of A bs)
  unfolding only find
  only-find q q' f g [] from Q = refl
  only-find q q' f g (c ∷ cs) from Q = go (test (A.inside c.base)) (only-find q q' f g cs (R.high c.base (len c)) Q.later)
    where
      go : Test (A.inside c.base) → find q cs ≡ find q' (blocks_of A cs)
          → cond (q c) (some c) (find q cs) ≡ find q' (cond (A.inside c.base) (c ∷ blocks_of A cs) (blocks_of A cs))
      go (is_true t) ih = rw (t, g c t, ih)
      go (is_false t) ih = rw (t, f c (record { some = Q.some; fits = Q.fits; aligned = Q.aligned }) t) ih

  -- ---- a block of A joins

  insert-first : (b : Block) (bs : List Block) (from : ℕ) → Placed R from bs → b.base < from → insert b (blocks_of A bs) ≡ b ∷ blocks_of A bs
  unfolding only insert
  insert-first b [] from Q h = refl
  insert-first b (c ∷ cs) from Q h = go (test (A.inside c.base)) (insert-first b cs (R.high c.base (len c)) Q.later)
    where
      lo : R.low c.base (len c) ≤ c.base
      lo = G.low_base c.base (len c) Q.fits

      go : Test (A.inside c.base) → (b.base < R.high c.base (len c) → insert b (blocks_of A cs) ≡ b ∷ blocks_of A cs)
          → insert b (cond (A.inside c.base) (c ∷ blocks_of A cs) (blocks_of A cs)) ≡ b ∷ cond (A.inside c.base) (c ∷ blocks_of A cs) (blocks_of A cs)
      go (is_true t) ih = rw (t, lt-ltb b.base c.base (omega (arith, lo, Q.room, h)))
      go (is_false t) ih = rw t (ih (omega (arith, low-high R G c.base (len c) Q.fits, Q.room, h)))

  pub insert-mine : (b : Block) (bs : List Block) (from : ℕ) → A.inside b.base ≡ true → Placed R from bs → blocks_of A (insert b bs) ≡ insert b (blocks_of A bs)
  unfolding only insert
  insert-mine b [] from i Q = rw i
  insert-mine b (c ∷ cs) from i Q = go (test (ltb b.base c.base)) (test (A.inside c.base)) (insert-mine b cs (R.high c.base (len c)) i Q.later)
    where
      go : Test (ltb b.base c.base) → Test (A.inside c.base) → blocks_of A (insert b cs) ≡ insert b (blocks_of A cs)
          → blocks_of A (cond (ltb b.base c.base) (b ∷ c ∷ cs) (c ∷ insert b cs)) ≡ insert b (cond (A.inside c.base) (c ∷ blocks_of A cs) (blocks_of A cs))
      go (is_true s) (is_true t) ih = rw (s, i, t, s)
      go (is_true s) (is_false t) ih =
          rw (s, i, t) (sym (insert-first b cs (R.high c.base (len c)) Q.later (omega (arith, ltb-true b.base c.base s, G.high_end c.base (len c)))))
      go (is_false s) (is_true t) ih = rw (s, t, s, ih)
      go (is_false s) (is_false t) ih = rw (s, t, ih)

  -- ---- a byte is written

  pub mark-mine : (a : ℕ) (bs : List Block) (from : ℕ) → A.inside a ≡ true → Placed R from bs → blocks_of A (mark_one a bs) ≡ mark_one a (blocks_of A bs)
  unfolding only mark_one
  mark-mine a [] from i Q = refl
  mark-mine a (c ∷ cs) from i Q = go (test (contains a c)) (test (A.inside c.base)) (mark-mine a cs (R.high c.base (len c)) i Q.later)
    where
      go : Test (contains a c) → Test (A.inside c.base) → blocks_of A (mark_one a cs) ≡ mark_one a (blocks_of A cs)
          → blocks_of A (cond (contains a c) (mark_block a c ∷ cs) (c ∷ mark_one a cs)) ≡ mark_one a (cond (A.inside c.base) (c ∷ blocks_of A cs) (blocks_of A cs))
      go (is_true s) (is_true t) ih = rw (s, t, s)
      go (is_true s) (is_false t) ih =
          let h = contains-true a c s in absurd (not-both (A.inside a) i (P.p-other c.base (len c) a t Q.fits h.0 h.1))
      go (is_false s) (is_true t) ih = rw (s, t, s, ih)
      go (is_false s) (is_false t) ih = rw (s, t, ih)

  pub mark-other : (a : ℕ) (bs : List Block) (from : ℕ) → A.inside a ≡ false → Placed R from bs → blocks_of A (mark_one a bs) ≡ blocks_of A bs
  unfolding only mark_one
  mark-other a [] from i Q = refl
  mark-other a (c ∷ cs) from i Q = go (test (contains a c)) (test (A.inside c.base)) (mark-other a cs (R.high c.base (len c)) i Q.later)
    where
      go : Test (contains a c) → Test (A.inside c.base) → blocks_of A (mark_one a cs) ≡ blocks_of A cs
          → blocks_of A (cond (contains a c) (mark_block a c ∷ cs) (c ∷ mark_one a cs)) ≡ cond (A.inside c.base) (c ∷ blocks_of A cs) (blocks_of A cs)
      go (is_true s) (is_true t) ih =
          let h = contains-true a c s in absurd (not-both (A.inside a) (P.p-own c.base (len c) a t Q.fits h.0 h.1) i)
      go (is_true s) (is_false t) ih = rw (s, t)
      go (is_false s) t ih = rw (s, ih)

  -- ---- finding

  pub meets-only : (bs : List Block) → Placed R 0 bs → (b l : ℕ) → 1 ≤ l → A.inside b ≡ true → R.fits b l ≡ true → R.aligned b ≡ true
      → find (meets R b l) bs ≡ find (meets A b l) (blocks_of A bs)
  unfolding meets
  meets-only bs Q b l n i f al =
      only-find (meets R b l) (meets A b l)
      (λ c k t. false_of (meets R b l c) (λ e.
      let u = and-true (ltb (R.low b l) (R.high c.base (len c))) (ltb (R.low c.base (len c)) (R.high b l)) e in
      P.p-apart b l c.base (len c) n k.some i f al t k.fits k.aligned (ltb-true (R.low b l) (R.high c.base (len c)) u.0) (ltb-true (R.low c.base (len c)) (R.high b l) u.1)))
      (λ c t. rw (P.p-low b l i, P.p-high b l i, P.p-low c.base (len c) t, P.p-high c.base (len c) t)) bs 0 Q

  contains-only : (bs : List Block) → Placed R 0 bs → (a : ℕ) → A.inside a ≡ true → find (contains a) bs ≡ find (contains a) (blocks_of A bs)
  contains-only bs Q a i =
      only-find (contains a) (contains a)
      (λ c k t. false_of (contains a c) (λ e. let h = contains-true a c e in not-both (A.inside a) i (P.p-other c.base (len c) a t k.fits h.0 h.1)))
      (λ c t. refl) bs 0 Q

  base-only : (bs : List Block) → Placed R 0 bs → (x : ℕ) → A.inside x ≡ true → find (has_base x) bs ≡ find (has_base x) (blocks_of A bs)
  base-only bs Q x i =
      only-find (has_base x) (has_base x)
      (λ c k t. false_of (has_base x c) (λ h. not-both (A.inside x) i (rw (eqb-true c.base x h) at t)))
      (λ c t. refl) bs 0 Q

  -- ---- the area's laws, on the whole list

  module _ {S : Type 0} (O : Ops S) (image : List Block → S) (I : Images A O image) (bs : List Block) (Q : Placed R 0 bs) where
    pub part-read : (a : ℕ) → A.inside a ≡ true → O.read (image (blocks_of A bs)) a ≡ lookup bs a
    part-read a i = I.image_read (blocks_of A bs) (only-placed bs 0 Q) a i ∙ ap (says a) (sym (contains-only bs Q a i))

    pub part-vacant : (b l : ℕ) → 1 ≤ l → A.inside b ≡ true → R.fits b l ≡ true → R.aligned b ≡ true → O.vacant (image (blocks_of A bs)) b l ≡ not (any (meets R b l) bs)
    part-vacant b l n i f al =
        rw (meets-only bs Q b l n i f al) (I.image_vacant (blocks_of A bs) (only-placed bs 0 Q) b l n (rw (P.p-fits b l i) at f) (rw (P.p-aligned b i) at al))

    pub part-stamp : (b : Block) → 1 ≤ len b → A.inside b.base ≡ true → R.fits b.base (len b) ≡ true → R.aligned b.base ≡ true
        → any (meets R b.base (len b)) bs ≡ false → O.stamp (image (blocks_of A bs)) b ≡ image (blocks_of A (insert b bs))
    part-stamp b n i f al m =
        I.image_stamp (blocks_of A bs) (only-placed bs 0 Q) b n (rw (P.p-fits b.base (len b) i) at f) (rw (P.p-aligned b.base i) at al)
        (rw (meets-only bs Q b.base (len b) n i f al) at m) ∙ ap image (sym (insert-mine b bs 0 i Q))

    pub part-erase : (x : ℕ) (b : Block) → A.inside x ≡ true → find (has_base x) bs ≡ some b → O.erase (image (blocks_of A bs)) x (len b) ≡ image (blocks_of A (remove x bs))
    part-erase x b i e =
        I.image_erase (blocks_of A bs) (only-placed bs 0 Q) x b i (sym (base-only bs Q x i) ∙ e) ∙ ap image (sym (remove-mine A x bs i))

    pub part-mark : (a : ℕ) (b : Block) → A.inside a ≡ true → find (contains a) bs ≡ some b → O.mark (image (blocks_of A bs)) a ≡ image (blocks_of A (mark_one a bs))
    part-mark a b i e =
        I.image_mark (blocks_of A bs) (only-placed bs 0 Q) a b i (sym (contains-only bs Q a i) ∙ e) ∙ ap image (sym (mark-mine a bs 0 i Q))

    pub part-marked : (a : ℕ) (b : Block) → A.inside a ≡ true → find (contains a) bs ≡ some b → O.marked (image (blocks_of A bs)) a ≡ is_written b a
    part-marked a b i e = I.image_marked (blocks_of A bs) (only-placed bs 0 Q) a b i (sym (contains-only bs Q a i) ∙ e)
