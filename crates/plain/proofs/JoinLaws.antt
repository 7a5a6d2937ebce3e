-- Two separate areas, each with its laws, are one area with its laws, both ways. Assumes nothing.
use mathlib.Core.Path.{◌≡◌, refl, ap, ◌∙◌}
use mathlib.Core.Bool.{Bool, true, false, cond, ◌||◌, not, true≢false}
use mathlib.Core.List.{List, [], ◌∷◌}
use mathlib.Core.Option.{Option, none, some}
use Prim.Native.Nat.{ℕ, ◌+◌, ◌≤◌, ◌<◌}
use native.Mathlib.Omega.{arith}
use lib.Dec.{ltb}
use borrow.Author.Tests.{lt-ltb, ltb-true}
use Rattle.number.specs.Bits.{bit, ones}
use Rattle.number.proofs.TestLaws.{Test, is_true, is_false, test, and-true, not-both, false_of}
use Rattle.plain.specs.Block.{Block, len, contains, has_base, is_written}
use Rattle.plain.specs.Blocks.{find, found, any, insert, remove, mark_one, total}
use Rattle.plain.specs.Rules.{Rules, meets, Placed, Sound}
use Rattle.plain.specs.Reading.{Tally, tally_of, lookup}
use Rattle.plain.specs.Ops.{Ops}
use Rattle.plain.specs.Images.{Images, Scanned}
use Rattle.plain.specs.Join.{join_rules, join_ops, plus, only, join_image, Separate}
use Rattle.plain.proofs.KeptLaws.{base-inside, low-high, insert-placed}
use Rattle.plain.proofs.OnlyLaws.{Part, blocks_of, only-placed, insert-mine, insert-other, remove-other, mark-other, meets-only, part-read, part-vacant, part-stamp, part-erase, part-mark, part-marked}

or-true : (a b : Bool) → (a || b) ≡ true → a ≡ false → b ≡ true
or-true true b e f = absurd (true≢false f)
or-true false b e f = e

pub true-or : (a b : Bool) → b ≡ true → (a || b) ≡ true
true-or true b e = refl
true-or false b e = e

-- the blocks of the one join those of the other
unfoldable merge : List Block → List Block → List Block
merge [] bs = bs
merge (a ∷ xs) bs = insert a (merge xs bs)

-- cs has the blocks xs in A and bs in B
record Merged (A B : Rules) (xs bs cs : List Block) : Type 0 where
  placed : Placed (join_rules A B) 0 cs
  only_a : blocks_of A cs ≡ xs
  only_b : blocks_of B cs ≡ bs

module _ (X : Rules) (G : Sound X) where
  -- a block does not meet what is placed after it
  after : (a : Block) (bs : List Block) (from : ℕ) → X.high a.base (len a) ≤ from → Placed X from bs → any (meets X a.base (len a)) bs ≡ false
  unfolding find meets
  after a [] from h Q = refl
  after a (c ∷ cs) from h Q =
      let n : meets X a.base (len a) c ≡ false =
      false_of (meets X a.base (len a) c) (λ e.
      let u = and-true (ltb (X.low a.base (len a)) (X.high c.base (len c))) (ltb (X.low c.base (len c)) (X.high a.base (len a))) e in
      omega (arith, ltb-true (X.low c.base (len c)) (X.high a.base (len a)) u.1, Q.room)) in
      rw n (after a cs (X.high c.base (len c)) (omega (arith, Q.room, low-high X G c.base (len c) Q.fits)) Q.later)

  first : (a : Block) (bs : List Block) (from : ℕ) → a.base < from → Placed X from bs → insert a bs ≡ a ∷ bs
  unfolding insert
  first a [] from h Q = refl
  first a (c ∷ cs) from h Q = rw (lt-ltb a.base c.base (omega (arith, Q.room, G.low_base c.base (len c) Q.fits)))

module _ (A B : Rules) (GA : Sound A) (GB : Sound B) (Z : Separate A B) where
  abbrev R : Rules
  R = join_rules A B

  not-b : (a : ℕ) → A.inside a ≡ true → B.inside a ≡ false
  not-b a i = false_of (B.inside a) (λ j. Z.no_share_lem a i j)

  not_a : (a : ℕ) → B.inside a ≡ true → A.inside a ≡ false
  not_a a j = false_of (A.inside a) (λ i. Z.no_share_lem a i j)

  pub join-sound : Sound (join_rules A B)
  join-sound =
      record {
        low_base = λ b l f. lo b l (test (A.inside b)) f;
        high_end = λ b l. hi b l (test (A.inside b));
        in_inside = λ b l a f x y. ins b l a (test (A.inside b)) f x y;
        in_top = λ a i. tp a (test (A.inside a)) i;
      }
    where
      lo : (b l : ℕ) → Test (A.inside b) → R.fits b l ≡ true → R.low b l ≤ b
      lo b l (is_true t) f = rw t (GA.low_base b l (rw t at f))
      lo b l (is_false t) f = rw t (GB.low_base b l (rw t at f))

      hi : (b l : ℕ) → Test (A.inside b) → b + l ≤ R.high b l
      hi b l (is_true t) = rw t (GA.high_end b l)
      hi b l (is_false t) = rw t (GB.high_end b l)

      ins : (b l a : ℕ) → Test (A.inside b) → R.fits b l ≡ true → b ≤ a → a < b + l → R.inside a ≡ true
      ins b l a (is_true t) f x y = rw (GA.in_inside b l a (rw t at f) x y)
      ins b l a (is_false t) f x y = true-or (A.inside a) (B.inside a) (GB.in_inside b l a (rw t at f) x y)

      tp : (a : ℕ) → Test (A.inside a) → R.inside a ≡ true → a < R.top
      tp a (is_true t) i = omega (arith, GA.in_top a t)
      tp a (is_false t) i = omega (arith, GB.in_top a (or-true (A.inside a) (B.inside a) i t))

  part-a : Part R A
  part-a =
      record {
        p-fits = λ b l i. rw i;
        p-aligned = λ b i. rw i;
        p-heap = λ b i. rw i;
        p-low = λ b l i. rw i;
        p-high = λ b l i. rw i;
        p-own = λ b l a i f x y. GA.in_inside b l a (rw i at f) x y;
        p-other = λ b l a i f x y. not_a a (GB.in_inside b l a (rw i at f) x y);
        p-apart = λ b l b' l' n n' i f al j f' al' x y.
            Z.no_meet b l b' l' n n' (rw i at f) (rw i at al) (rw j at f') (rw j at al') (rw (i, j) at x) (rw (i, j) at y);
      }

  pub part-b : Part (join_rules A B) B
  part-b =
      record {
        p-fits = λ b l j. rw (not_a b j);
        p-aligned = λ b j. rw (not_a b j);
        p-heap = λ b j. rw (not_a b j);
        p-low = λ b l j. rw (not_a b j);
        p-high = λ b l j. rw (not_a b j);
        p-own = λ b l a j f x y. GB.in_inside b l a (rw (not_a b j) at f) x y;
        p-other = λ b l a j f x y. other b l a (test (A.inside b)) j f x y;
        p-apart = λ b l b' l' n n' j f al i f' al' x y. apart b l b' l' n n' j f al (test (A.inside b')) i f' al' x y;
      }
    where
      other : (b l a : ℕ) → Test (A.inside b) → B.inside b ≡ false → R.fits b l ≡ true → b ≤ a → a < b + l → B.inside a ≡ false
      other b l a (is_true t) j f x y = not-b a (GA.in_inside b l a (rw t at f) x y)
      other b l a (is_false t) j f x y = absurd (not-both (B.inside b) (base-inside B GB b l (omega arith) (rw t at f)) j)

      apart : (b l b' l' : ℕ) → 1 ≤ l → 1 ≤ l' → B.inside b ≡ true → R.fits b l ≡ true → R.aligned b ≡ true → Test (A.inside b') → B.inside b' ≡ false → R.fits b' l' ≡ true → R.aligned b' ≡ true
          → R.low b l < R.high b' l' → R.low b' l' < R.high b l → ⊥
      apart b l b' l' n n' j f al (is_true t) i f' al' x y =
          let k = not_a b j in
          Z.no_meet b' l' b l n' n (rw t at f') (rw t at al') (rw k at f) (rw k at al) (rw (t, k) at y) (rw (t, k) at x)
      apart b l b' l' n n' j f al (is_false t) i f' al' x y = absurd (not-both (B.inside b') (base-inside B GB b' l' n' (rw t at f')) i)

  -- ---- the laws of images

  -- a block of the list lies in one area or the other
  total-same : (v u w : Block → ℕ) → ((c : Block) → A.inside c.base ≡ true → w c ≡ v c) → ((c : Block) → A.inside c.base ≡ false → w c ≡ u c)
      → (bs : List Block) (from : ℕ) → Placed R from bs → total v (blocks_of A bs) + total u (blocks_of B bs) ≡ total w bs
  unfolding only total
  total-same v u w f g [] from Q = refl
  total-same v u w f g (c ∷ cs) from Q = go (test (A.inside c.base)) (total-same v u w f g cs (R.high c.base (len c)) Q.later)
    where
      go : Test (A.inside c.base) → total v (blocks_of A cs) + total u (blocks_of B cs) ≡ total w cs
          → total v (cond (A.inside c.base) (c ∷ blocks_of A cs) (blocks_of A cs)) + total u (cond (B.inside c.base) (c ∷ blocks_of B cs) (blocks_of B cs)) ≡ w c + total w cs
      go (is_true t) ih = rw (t, not-b c.base t) (omega (arith, ih, f c t))
      go (is_false t) ih = rw (t, base-inside B GB c.base (len c) Q.some (rw t at Q.fits)) (omega (arith, ih, g c t))

  tally-same : (bs : List Block) → Placed R 0 bs → plus (some (tally_of A (blocks_of A bs))) (some (tally_of B (blocks_of B bs))) ≡ some (tally_of R bs)
  tally-same bs Q =
      rw (
        total-same (λ c. bit (A.heap c.base)) (λ c. bit (B.heap c.base)) (λ c. bit (R.heap c.base)) (λ c t. rw t) (λ c t. rw t) bs 0 Q,
        total-same (λ c. bit (not (A.heap c.base))) (λ c. bit (not (B.heap c.base))) (λ c. bit (not (R.heap c.base))) (λ c t. rw t) (λ c t. rw t) bs 0 Q,
        total-same len len len (λ c t. refl) (λ c t. refl) bs 0 Q,
        total-same (λ c. ones c.marks) (λ c. ones c.marks) (λ c. ones c.marks) (λ c t. refl) (λ c t. refl) bs 0 Q,
      )

  module _ {X Y : Type 0} (OA : Ops X) (OB : Ops Y) (im_a : List Block → X) (im_b : List Block → Y) (IA : Images A OA im_a) (IB : Images B OB im_b) where
    abbrev J : List Block → X × Y
    J = join_image A B im_a im_b

    abbrev O : Ops (X × Y)
    O = join_ops A OA OB

    module _ (bs : List Block) (Q : Placed R 0 bs) where
      read : (a : ℕ) → Test (A.inside a) → R.inside a ≡ true → O.read (J bs) a ≡ lookup bs a
      read a (is_true t) i = rw t (part-read R A join-sound part-a OA im_a IA bs Q a t)
      read a (is_false t) i = rw t (part-read R B join-sound part-b OB im_b IB bs Q a (or-true (A.inside a) (B.inside a) i t))

      vacant : (b l : ℕ) → Test (A.inside b) → 1 ≤ l → R.fits b l ≡ true → R.aligned b ≡ true → O.vacant (J bs) b l ≡ not (any (meets R b l) bs)
      vacant b l (is_true t) n f al = rw t (part-vacant R A join-sound part-a OA im_a IA bs Q b l n t f al)
      vacant b l (is_false t) n f al = rw t (part-vacant R B join-sound part-b OB im_b IB bs Q b l n (base-inside B GB b l n (rw t at f)) f al)

      stamp : (b : Block) → Test (A.inside b.base) → 1 ≤ len b → R.fits b.base (len b) ≡ true → R.aligned b.base ≡ true
          → any (meets R b.base (len b)) bs ≡ false → O.stamp (J bs) b ≡ J (insert b bs)
      stamp b (is_true t) n f al m =
          rw (t, part-stamp R A join-sound part-a OA im_a IA bs Q b n t f al m, insert-other B b bs (not-b b.base t))
      stamp b (is_false t) n f al m =
          rw (t, part-stamp R B join-sound part-b OB im_b IB bs Q b n (base-inside B GB b.base (len b) n (rw t at f)) f al m, insert-other A b bs t)

      erase : (x : ℕ) (b : Block) → Test (A.inside x) → R.inside x ≡ true → find (has_base x) bs ≡ some b → O.erase (J bs) x (len b) ≡ J (remove x bs)
      erase x b (is_true t) i e = rw (t, part-erase R A join-sound part-a OA im_a IA bs Q x b t e, remove-other B x bs (not-b x t))
      erase x b (is_false t) i e =
          rw (t, part-erase R B join-sound part-b OB im_b IB bs Q x b (or-true (A.inside x) (B.inside x) i t) e, remove-other A x bs t)

      mark : (a : ℕ) (b : Block) → Test (A.inside a) → R.inside a ≡ true → find (contains a) bs ≡ some b → O.mark (J bs) a ≡ J (mark_one a bs)
      mark a b (is_true t) i e =
          rw (t, part-mark R A join-sound part-a OA im_a IA bs Q a b t e, mark-other R B join-sound part-b a bs 0 (not-b a t) Q)
      mark a b (is_false t) i e =
          rw (t, part-mark R B join-sound part-b OB im_b IB bs Q a b (or-true (A.inside a) (B.inside a) i t) e, mark-other R A join-sound part-a a bs 0 t Q)

      marked : (a : ℕ) (b : Block) → Test (A.inside a) → R.inside a ≡ true → find (contains a) bs ≡ some b → O.marked (J bs) a ≡ is_written b a
      marked a b (is_true t) i e = rw t (part-marked R A join-sound part-a OA im_a IA bs Q a b t e)
      marked a b (is_false t) i e = rw t (part-marked R B join-sound part-b OB im_b IB bs Q a b (or-true (A.inside a) (B.inside a) i t) e)

      audit : O.audit (J bs) ≡ some (tally_of R bs)
      audit =
          rw (IA.image_audit (blocks_of A bs) (only-placed R A join-sound part-a bs 0 Q), IB.image_audit (blocks_of B bs) (only-placed R B join-sound part-b bs 0 Q))
          (tally-same bs Q)

      gaps : O.gaps (J bs) ≡ R.gaps bs
      gaps =
          rw (IA.image_gaps (blocks_of A bs) (only-placed R A join-sound part-a bs 0 Q), IB.image_gaps (blocks_of B bs) (only-placed R B join-sound part-b bs 0 Q))

    pub join-images : Images (join_rules A B) (join_ops A OA OB) (join_image A B im_a im_b)
    unfolding only
    join-images =
        record {
          image_nil = rw (IA.image_nil, IB.image_nil);
          image_read = λ bs Q a i. read bs Q a (test (A.inside a)) i;
          image_vacant = λ bs Q b l n f al. vacant bs Q b l (test (A.inside b)) n f al;
          image_stamp = λ bs Q b n f al m. stamp bs Q b (test (A.inside b.base)) n f al m;
          image_erase = λ bs Q x b i e. erase bs Q x b (test (A.inside x)) i e;
          image_mark = λ bs Q a b i e. mark bs Q a b (test (A.inside a)) i e;
          image_marked = λ bs Q a b i e. marked bs Q a b (test (A.inside a)) i e;
          image_audit = λ bs Q. audit bs Q;
          image_gaps = λ bs Q. gaps bs Q;
        }

  -- ---- the other way: what an audit accepts

  in_b : (b : Block) (bs : List Block) (from : ℕ) → Placed B from (b ∷ bs) → B.inside b.base ≡ true
  in_b b bs from Q = base-inside B GB b.base (len b) Q.some Q.fits

  b-placed : (bs : List Block) (from : ℕ) → Placed B from bs → Placed R from bs
  b-placed [] from Q = tt
  b-placed (b ∷ bs) from Q =
      let i = not_a b.base (in_b b bs from Q) in
      record { some = Q.some; fits = rw i Q.fits; aligned = rw i Q.aligned; proper = λ t. (rw i (Q.proper t).0, (Q.proper t).1); room = rw i Q.room; later = rw i (b-placed bs (B.high b.base (len b)) Q.later) }

  b-only_a : (bs : List Block) (from : ℕ) → Placed B from bs → blocks_of A bs ≡ []
  unfolding only
  b-only_a [] from Q = refl
  b-only_a (b ∷ bs) from Q = rw (not_a b.base (in_b b bs from Q)) (b-only_a bs (B.high b.base (len b)) Q.later)

  b-only_b : (bs : List Block) (from : ℕ) → Placed B from bs → blocks_of B bs ≡ bs
  unfolding only
  b-only_b [] from Q = refl
  b-only_b (b ∷ bs) from Q = rw (in_b b bs from Q, b-only_b bs (B.high b.base (len b)) Q.later)

  merged : (xs bs : List Block) (from : ℕ) → Placed A from xs → Placed B 0 bs → Merged A B xs bs (merge xs bs)
  unfolding merge
  merged [] bs from P Q = record { placed = b-placed bs 0 Q; only_a = b-only_a bs 0 Q; only_b = b-only_b bs 0 Q }
  merged (a ∷ xs) bs from P Q = go (merge xs bs) (merged xs bs (A.high a.base (len a)) P.later Q)
    where
      i : A.inside a.base ≡ true
      i = base-inside A GA a.base (len a) P.some P.fits

      hi : a.base + len a ≤ A.high a.base (len a)
      hi = GA.high_end a.base (len a)

      f : R.fits a.base (len a) ≡ true
      f = rw i P.fits

      al : R.aligned a.base ≡ true
      al = rw i P.aligned

      go : (cs : List Block) → Merged A B xs bs cs → Merged A B (a ∷ xs) bs (insert a cs)
      go cs M =
          record {
            placed = insert-placed R join-sound a P.some f al (λ t. (rw i (P.proper t).0, (P.proper t).1)) cs 0 (omega arith) M.placed no_meet;
            only_a = insert-mine R A join-sound part-a a cs 0 i M.placed ∙ ap (insert a) M.only_a ∙ first A GA a xs (A.high a.base (len a)) (omega (arith, hi, P.some)) P.later;
            only_b = insert-other B a cs (not-b a.base i) ∙ M.only_b;
          }
        where
          no_meet : any (meets R a.base (len a)) cs ≡ false
          no_meet =
              ap found (meets-only R A join-sound part-a cs M.placed a.base (len a) P.some i f al) ∙ ap (λ (l : List Block). any (meets A a.base (len a)) l) M.only_a
              ∙ after A GA a xs (A.high a.base (len a)) (omega arith) P.later

  pub join-scanned : {X Y : Type 0} (OA : Ops X) (OB : Ops Y) (im_a : List Block → X) (im_b : List Block → Y) (FA : X → Type 0) (FB : Y → Type 0)
      → Scanned A OA im_a FA → Scanned B OB im_b FB → Scanned (join_rules A B) (join_ops A OA OB) (join_image A B im_a im_b) (λ s. FA s.0 × FB s.1)
  join-scanned {X} {Y} OA OB im_a im_b FA FB IA IB =
      record { scanned = λ s t k e. go s.0 s.1 t k (OA.audit s.0) refl (OB.audit s.1) refl e }
    where
      go : (x : X) (y : Y) (t : Tally) → FA x × FB y → (p : Option Tally) → OA.audit x ≡ p → (q : Option Tally) → OB.audit y ≡ q → plus p q ≡ some t
          → (bs : List Block) × Placed R 0 bs × ◌≡◌ {A = X × Y} (x, y) (join_image A B im_a im_b bs)
      go x y t k none u q v e = absurd (let z : ◌≡◌ {A = ℕ} 0 1 = cc in omega arith)
      go x y t k (some p) u none v e = absurd (let z : ◌≡◌ {A = ℕ} 0 1 = cc in omega arith)
      go x y t k (some p) u (some q) v e =
          let r = IA.scanned x p k.0 u in
          let w = IB.scanned y q k.1 v in
          let M = merged r.0 w.0 0 r.1 w.1 in
          (merge r.0 w.0, M.placed, rw (M.only_a, M.only_b, ← r.2, ← w.2))
