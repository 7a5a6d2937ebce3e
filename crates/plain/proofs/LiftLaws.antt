-- A layout by positions is one by addresses, both ways. Assumes nothing.
use mathlib.Core.Path.{◌≡◌, refl, sym, ap, ◌∙◌}
use mathlib.Core.Bool.{Bool, true, false, cond, not}
use mathlib.Core.List.{List, [], ◌∷◌, map}
use mathlib.Core.Option.{Option, none, some}
use Prim.Native.Nat.{ℕ, ◌+◌, ◌-◌, ◌≤◌}
use native.Mathlib.Omega.{arith}
use lib.ListN.{set}
use lib.Dec.{ltb}
use borrow.Author.Tests.{lt-ltb, le-ltb, ltb-true, ltb-false}
use Rattle.number.specs.Bits.{bit, ones}
use Rattle.number.proofs.TestLaws.{Test, is_true, is_false, test, same_test, eqb_same}
use Rattle.plain.specs.Block.{Block, len, contains, has_base, is_written, mark_block}
use Rattle.plain.specs.Blocks.{find, found, any, insert, remove, mark_one, total}
use Rattle.plain.specs.Rules.{Rules, meets, Placed, Sound}
use Rattle.plain.specs.Reading.{tally_of, says, lookup}
use Rattle.plain.specs.Ops.{Ops}
use Rattle.plain.specs.Images.{Images, Scanned}
use Rattle.plain.specs.Lift.{Shifted, reading_up, lift_ops, down, downs, gap_up}
use Rattle.plain.proofs.BlockLaws.{contains-true, true-contains}
use Rattle.plain.proofs.FindLaws.{find-facts}
use Rattle.plain.proofs.KeptLaws.{weaken}

-- E's positions are A's addresses, from the start s on
pub record Unshifted (s : ℕ) (A E : Rules) : Type 0 where
  pub u-fits : (p l : ℕ) → E.fits p l ≡ true → A.fits (s + p) l ≡ true
  pub u-aligned : (p l : ℕ) → E.fits p l ≡ true → E.aligned p ≡ true → A.aligned (s + p) ≡ true

-- a block by positions, told by addresses
abbrev up : ℕ → Block → Block
up s b = record { base = s + b.base; marks = b.marks; literal = b.literal }

abbrev down_found : ℕ → Option Block → Option Block
down_found s none = none
down_found s (some b) = some (down s b)

found-down : (s : ℕ) (o : Option Block) → found (down_found s o) ≡ found o
found-down s none = refl
found-down s (some b) = refl

total-down : (s : ℕ) (v w : Block → ℕ) → ((c : Block) → v (down s c) ≡ w c) → (bs : List Block) → total v (downs s bs) ≡ total w bs
unfolding total
total-down s v w f [] = refl
total-down s v w f (c ∷ cs) = rw (f c, total-down s v w f cs)

pub less-down : (s x y x' y' : ℕ) → x ≡ s + x' → y ≡ s + y' → ltb x y ≡ ltb x' y'
less-down s x y x' y' p q =
    same_test (ltb x y) (ltb x' y') (λ e. let u = ltb-true x y e in lt-ltb x' y' (omega arith)) (λ e. let u = ltb-true x' y' e in lt-ltb x y (omega arith))

module _ (s : ℕ) (A E : Rules) (G : Sound A) (H : Shifted s A E) where
  -- a block of A begins at or above the start
  from_start : (b l : ℕ) → A.fits b l ≡ true → s ≤ b
  from_start b l f = (H.s_fits b l f).0

  pub lift-placed : (bs : List Block) (from : ℕ) → Placed A from bs → Placed E (from - s) (downs s bs)
  lift-placed [] from Q = tt
  lift-placed (c ∷ cs) from Q =
      record {
        some = Q.some;
        fits = (H.s_fits c.base (len c) Q.fits).1;
        aligned = H.s_aligned c.base (len c) Q.fits Q.aligned;
        proper = λ t. (sym (H.s_heap c.base) ∙ (Q.proper t).0, (Q.proper t).1);
        room = omega (arith, Q.room, H.s_low c.base (len c) Q.fits);
        later = rw e at (lift-placed cs (A.high c.base (len c)) Q.later);
      }
    where
      e : A.high c.base (len c) - s ≡ E.high (c.base - s) (len c)
      e = omega (arith, H.s_high c.base (len c) Q.fits)

  -- a question by addresses is one by positions
  lift-find : (q q' : Block → Bool) → ((c : Block) → A.fits c.base (len c) ≡ true → q c ≡ q' (down s c)) → (bs : List Block) (from : ℕ) → Placed A from bs
      → find q' (downs s bs) ≡ down_found s (find q bs)
  unfolding find
  lift-find q q' f [] from Q = refl
  lift-find q q' f (c ∷ cs) from Q = rw (f c Q.fits, lift-find q q' f cs (A.high c.base (len c)) Q.later) (go (q' (down s c)))
    where
      go : (t : Bool) → cond t (some (down s c)) (down_found s (find q cs)) ≡ down_found s (cond t (some c) (find q cs))
      go true = refl
      go false = refl

  contains-down : (a : ℕ) → s ≤ a → (c : Block) → A.fits c.base (len c) ≡ true → contains a c ≡ contains (a - s) (down s c)
  contains-down a h c f =
      let k = from_start c.base (len c) f in
      same_test (contains a c) (contains (a - s) (down s c))
      (λ e. let u = contains-true a c e in true-contains (a - s) (down s c) (omega arith) (omega arith))
      (λ e. let u = contains-true (a - s) (down s c) e in true-contains a c (omega (arith, u.0)) (omega (arith, u.1)))

  base-down : (x : ℕ) → s ≤ x → (c : Block) → A.fits c.base (len c) ≡ true → has_base x c ≡ has_base (x - s) (down s c)
  base-down x h c f =
      let k = from_start c.base (len c) f in
      eqb_same c.base x (c.base - s) (x - s) (λ e. omega arith) (λ e. omega arith)

  meets-down : (b l : ℕ) → A.fits b l ≡ true → (c : Block) → A.fits c.base (len c) ≡ true → meets A b l c ≡ meets E (b - s) l (down s c)
  unfolding meets
  meets-down b l f c g =
      rw (
        less-down s (A.low b l) (A.high c.base (len c)) (E.low (b - s) l) (E.high (c.base - s) (len c)) (H.s_low b l f) (H.s_high c.base (len c) g),
        less-down s (A.low c.base (len c)) (A.high b l) (E.low (c.base - s) (len c)) (E.high (b - s) l) (H.s_low c.base (len c) g) (H.s_high b l f),
      )

  -- ---- changes

  insert-down : (b : Block) → s ≤ b.base → (bs : List Block) (from : ℕ) → Placed A from bs → downs s (insert b bs) ≡ insert (down s b) (downs s bs)
  unfolding insert
  insert-down b h [] from Q = refl
  insert-down b h (c ∷ cs) from Q = go (test (ltb b.base c.base)) (insert-down b h cs (A.high c.base (len c)) Q.later)
    where
      k : s ≤ c.base
      k = from_start c.base (len c) Q.fits

      go : Test (ltb b.base c.base) → downs s (insert b cs) ≡ insert (down s b) (downs s cs)
          → downs s (cond (ltb b.base c.base) (b ∷ c ∷ cs) (c ∷ insert b cs)) ≡ cond (ltb (b.base - s) (c.base - s)) (down s b ∷ down s c ∷ downs s cs) (down s c ∷ insert (down s b) (downs s cs))
      go (is_true t) ih = rw (t, lt-ltb (b.base - s) (c.base - s) (omega (arith, ltb-true b.base c.base t)))
      go (is_false t) ih = rw (t, le-ltb (b.base - s) (c.base - s) (omega (arith, ltb-false b.base c.base t)), ih)

  remove-down : (x : ℕ) → s ≤ x → (bs : List Block) (from : ℕ) → Placed A from bs → downs s (remove x bs) ≡ remove (x - s) (downs s bs)
  unfolding remove
  remove-down x h [] from Q = refl
  remove-down x h (c ∷ cs) from Q = rw (← (remove-down x h cs (A.high c.base (len c)) Q.later), ← (base-down x h c Q.fits)) (go (has_base x c))
    where
      go : (t : Bool) → downs s (cond t cs (c ∷ remove x cs)) ≡ cond t (downs s cs) (down s c ∷ downs s (remove x cs))
      go true = refl
      go false = refl

  mark-down : (a : ℕ) → s ≤ a → (bs : List Block) (from : ℕ) → Placed A from bs → downs s (mark_one a bs) ≡ mark_one (a - s) (downs s bs)
  unfolding mark_one
  mark-down a h [] from Q = refl
  mark-down a h (c ∷ cs) from Q =
      rw (← (mark-down a h cs (A.high c.base (len c)) Q.later), ← (contains-down a h c Q.fits), e) (go (contains a c))
    where
      e : a - s - (c.base - s) ≡ a - c.base
      e = omega (arith, from_start c.base (len c) Q.fits)

      go : (t : Bool) → downs s (cond t (mark_block a c ∷ cs) (c ∷ mark_one a cs)) ≡ cond t (record { base = c.base - s; marks = set c.marks (a - c.base) true; literal = c.literal } ∷ downs s cs) (down s c ∷ downs s (mark_one a cs))
      go true = refl
      go false = refl

  -- ---- the laws of images

  module _ {S : Type 0} (O : Ops S) (image : List Block → S) (I : Images E O image) (bs : List Block) (Q : Placed A 0 bs) where
    Q' : Placed E 0 (downs s bs)
    Q' = let z : 0 - s ≡ 0 = omega arith in rw z at (lift-placed bs 0 Q)

    -- the block of an address, and the address's offset in it
    at-down : (a : ℕ) (b : Block) → s ≤ a → find (contains a) bs ≡ some b
        → (find (contains (a - s)) (downs s bs) ≡ some (down s b)) × (s ≤ b.base) × (a - s - (b.base - s) ≡ a - b.base)
    at-down a b h e =
        let k = from_start b.base (len b) (find-facts A G bs 0 (contains a) b Q e).fits in
        (lift-find (contains a) (contains (a - s)) (contains-down a h) bs 0 Q ∙ rw e, k, omega arith)

    read : (a : ℕ) → A.inside a ≡ true → reading_up s (O.read (image (downs s bs)) (a - s)) ≡ lookup bs a
    read a i =
        let k = H.s_inside a i in
        rw (I.image_read (downs s bs) Q' (a - s) k.1, lift-find (contains a) (contains (a - s)) (contains-down a k.0) bs 0 Q)
        (go k.0 (find (contains a) bs) refl)
      where
        go : s ≤ a → (o : Option Block) → find (contains a) bs ≡ o → reading_up s (says (a - s) (down_found s o)) ≡ says a o
        go h none e = refl
        go h (some b) e =
            let k = at-down a b h e in
            let p : s + (b.base - s) ≡ b.base = omega arith in
            rw (p, k.2)

    any-meets : (b l : ℕ) → A.fits b l ≡ true → any (meets E (b - s) l) (downs s bs) ≡ any (meets A b l) bs
    any-meets b l f = ap found (lift-find (meets A b l) (meets E (b - s) l) (meets-down b l f) bs 0 Q) ∙ found-down s (find (meets A b l) bs)

    marked : (a : ℕ) (b : Block) → A.inside a ≡ true → find (contains a) bs ≡ some b → O.marked (image (downs s bs)) (a - s) ≡ is_written b a
    marked a b i e =
        let k = H.s_inside a i in
        let d = at-down a b k.0 e in
        I.image_marked (downs s bs) Q' (a - s) (down s b) k.1 d.0 ∙ rw d.2

    audit : O.audit (image (downs s bs)) ≡ some (tally_of A bs)
    audit =
        rw (
          I.image_audit (downs s bs) Q',
          total-down s (λ c. bit (E.heap c.base)) (λ c. bit (A.heap c.base)) (λ c. rw (H.s_heap c.base)) bs,
          total-down s (λ c. bit (not (E.heap c.base))) (λ c. bit (not (A.heap c.base))) (λ c. rw (H.s_heap c.base)) bs,
          total-down s len len (λ c. refl) bs,
          total-down s (λ c. ones c.marks) (λ c. ones c.marks) (λ c. refl) bs,
        )

  pub lift-images : {S : Type 0} (O : Ops S) (image : List Block → S) → Images E O image → Images A (lift_ops s O) (λ bs. image (downs s bs))
  lift-images O image I =
      record {
        image_nil = I.image_nil;
        image_read = read O image I;
        image_vacant = λ bs Q b l n f al.
            I.image_vacant (downs s bs) (Q' O image I bs Q) (b - s) l n (H.s_fits b l f).1 (H.s_aligned b l f al) ∙ ap not (any-meets O image I bs Q b l f);
        image_stamp = λ bs Q b n f al m.
            I.image_stamp (downs s bs) (Q' O image I bs Q) (down s b) n (H.s_fits b.base (len b) f).1 (H.s_aligned b.base (len b) f al)
            (any-meets O image I bs Q b.base (len b) f ∙ m) ∙ ap image (sym (insert-down b (from_start b.base (len b) f) bs 0 Q));
        image_erase = λ bs Q x b i e.
            I.image_erase (downs s bs) (Q' O image I bs Q) (x - s) (down s b) (H.s_inside x i).1
            (lift-find (has_base x) (has_base (x - s)) (base-down x (H.s_inside x i).0) bs 0 Q ∙ ap (down_found s) e)
            ∙ ap image (sym (remove-down x (H.s_inside x i).0 bs 0 Q));
        image_mark = λ bs Q a b i e.
            I.image_mark (downs s bs) (Q' O image I bs Q) (a - s) (down s b) (H.s_inside a i).1 (at-down O image I bs Q a b (H.s_inside a i).0 e).0
            ∙ ap image (sym (mark-down a (H.s_inside a i).0 bs 0 Q));
        image_marked = marked O image I;
        image_audit = audit O image I;
        image_gaps = λ bs Q. ap (map (gap_up s)) (I.image_gaps (downs s bs) (Q' O image I bs Q)) ∙ sym (H.s_gaps bs Q);
      }

-- ---- the other way: what an audit accepts

module _ (s : ℕ) (A E : Rules) (H : Shifted s A E) (U : Unshifted s A E) where
  back : (p : ℕ) → s + p - s ≡ p
  back p = omega arith

  ups-placed : (bs : List Block) (from : ℕ) → Placed E from bs → Placed A (s + from) (map (up s) bs)
  ups-placed [] from Q = tt
  ups-placed (b ∷ bs) from Q =
      record {
        some = Q.some;
        fits = f;
        aligned = U.u-aligned b.base (len b) Q.fits Q.aligned;
        proper = λ t. (H.s_heap (s + b.base) ∙ ap E.heap (back b.base) ∙ (Q.proper t).0, (Q.proper t).1);
        room = omega (arith, lo, Q.room);
        later = rw hi (ups-placed bs (E.high b.base (len b)) Q.later);
      }
    where
      f : A.fits (s + b.base) (len b) ≡ true
      f = U.u-fits b.base (len b) Q.fits

      lo : A.low (s + b.base) (len b) ≡ s + E.low b.base (len b)
      lo = rw (back b.base) at (H.s_low (s + b.base) (len b) f)

      hi : A.high (s + b.base) (len b) ≡ s + E.high b.base (len b)
      hi = rw (back b.base) at (H.s_high (s + b.base) (len b) f)

  downs-ups : (bs : List Block) → downs s (map (up s) bs) ≡ bs
  downs-ups [] = refl
  downs-ups (b ∷ bs) = rw (downs-ups bs, back b.base)

  pub lift-scanned : {S : Type 0} (O : Ops S) (image : List Block → S) (Fit : S → Type 0) → Scanned E O image Fit → Scanned A (lift_ops s O) (λ bs. image (downs s bs)) Fit
  lift-scanned O image Fit I =
      record {
        scanned = λ h t k e.
            let r = I.scanned h t k e in
            (map (up s) r.0, weaken A (map (up s) r.0) (s + 0) 0 (omega arith) (ups-placed r.0 0 r.1), r.2 ∙ ap image (sym (downs-ups r.0)));
      }
