-- What stands from a position on: the rest of a block that goes on there, then the blocks after it, byte by byte. Assumes nothing.
use mathlib.Core.Path.{◌≡◌, refl, sym, ap, ◌∙◌, subst}
use mathlib.Core.Logic.{◌≢◌}
use mathlib.Core.Bool.{Bool, true, false, cond}
use mathlib.Core.List.{List, [], ◌∷◌}
use Prim.Native.Nat.{ℕ, suc, ◌+◌, ◌-◌, ◌≤◌, ◌<◌}
use native.Mathlib.Omega.{arith}
use native.Mathlib.Nat.{add-zero, zero-add, sub-zero}
use lib.ListN.{length, get_or, replicate}
use lib.Arith.{lt_of_le-ne}
use lib.Dec.{leb, ltb, eqb}
use borrow.Author.Tests.{lt-ltb, le-ltb, le-leb, leb-true, leb-false, eqb-true, eqb-false}
use Rattle.number.proofs.TestLaws.{Test, is_true, is_false, test}
use Rattle.plain.specs.Block.{Block, len, contains, is_written}
use Rattle.plain.specs.Rules.{Placed}
use Rattle.plain.specs.Areas.{stack_rules}
use Rattle.plain.specs.Layer.{layer}
use Rattle.plain.proofs.KeptLaws.{weaken}
use Rattle.plain.proofs.AreaLaws.{stack-span, span-stack, stack-sound}
use Rattle.plain.proofs.LayerLaws.{layer-low}
use Rattle.stack_layout.specs.Code.{low_bits, primary_of, secondary_of}
use Rattle.stack_layout.specs.Image.{primary_own, secondary_own, primary_byte, secondary_byte}
use Rattle.stack_layout.proofs.ImageLaws.{covers, in-foot}

-- the primary and the secondary byte of byte i of a block of length L, a literal or not
abbrev pub pair : (L i : ℕ) (t m : Bool) → ℕ × ℕ
pair L i t m = (primary_of L i (low_bits t m), secondary_of L i)

-- both bytes of an image
abbrev pub pairs : List Block → ℕ → ℕ × ℕ
pairs = layer covers (λ b q. pair (len b) (q - b.base) b.literal (is_written b q)) (0, 0)

pub pairs-image : (bs : List Block) (q : ℕ) → (primary_byte bs q ≡ (pairs bs q).0) × (secondary_byte bs q ≡ (pairs bs q).1)
unfolding layer primary_own secondary_own
pairs-image [] q = (refl, refl)
pairs-image (b ∷ bs) q = let h = pairs-image bs q in rw (h.0, h.1) (go (contains q b))
  where
    own : ℕ × ℕ
    own = pair (len b) (q - b.base) b.literal (is_written b q)

    go : (t : Bool) → (cond t own.0 (pairs bs q).0 ≡ (cond t own (pairs bs q)).0) × (cond t own.1 (pairs bs q).1 ≡ (cond t own (pairs bs q)).1)
    go true = (refl, refl)
    go false = (refl, refl)

-- byte t, from q on, where a block of length L, a literal or not, goes on at its byte i with the marks ms, and bs come after it
unfoldable pub rest_at : (q L i : ℕ) (u : Bool) → List Bool → List Block → (t : ℕ) → ℕ × ℕ
rest_at q L i u ms bs t = cond (ltb t (q + (L - i))) (pair L (i + (t - q)) u (get_or ms (t - q) false)) (pairs bs t)

pub rest_in : (q L i : ℕ) (u : Bool) (ms : List Bool) (bs : List Block) (t : ℕ) → t < q + (L - i)
    → rest_at q L i u ms bs t ≡ pair L (i + (t - q)) u (get_or ms (t - q) false)
unfolding rest_at
rest_in q L i u ms bs t h = rw (lt-ltb t (q + (L - i)) h)

pub rest-after : (q L i : ℕ) (u : Bool) (ms : List Bool) (bs : List Block) (t : ℕ) → q + (L - i) ≤ t → rest_at q L i u ms bs t ≡ pairs bs t
unfolding rest_at
rest-after q L i u ms bs t h = rw (le-ltb t (q + (L - i)) h)

pub rest-first : (q L i : ℕ) (u m : Bool) (ms : List Bool) (bs : List Block) → i < L → rest_at q L i u (m ∷ ms) bs q ≡ pair L i u m
rest-first q L i u m ms bs h =
    let z : q - q ≡ 0 = omega arith in
    rest_in q L i u (m ∷ ms) bs q (omega arith) ∙ rw (z, add-zero i)

-- the length that still goes on past byte i
abbrev pub still : (L i : ℕ) → ℕ
still L i = cond (leb L (suc i)) 0 L

pub still-left : (L i : ℕ) → still L i - suc i ≡ L - suc i
still-left L i = go (test (leb L (suc i)))
  where
    go : Test (leb L (suc i)) → still L i - suc i ≡ L - suc i
    go (is_true e) = rw e (omega (arith, leb-true L (suc i) e))
    go (is_false e) = rw e

pub still-in : (L i : ℕ) → still L i ≢ 0 → suc i < still L i
still-in L i = go (leb L (suc i)) refl
  where
    go : (t : Bool) → leb L (suc i) ≡ t → cond t 0 L ≢ 0 → suc i < cond t 0 L
    go true e z = absurd (z refl)
    go false e z = leb-false L (suc i) e

-- past the first byte
pub rest-next : (q L i : ℕ) (u m : Bool) (ms : List Bool) (bs : List Block) (t : ℕ) → i < L → suc q ≤ t
    → rest_at q L i u (m ∷ ms) bs t ≡ rest_at (suc q) (still L i) (suc i) u ms bs t
unfolding rest_at
rest-next q L i u m ms bs t h k = go (test (leb L (suc i)))
  where
    go : Test (leb L (suc i)) → rest_at q L i u (m ∷ ms) bs t ≡ rest_at (suc q) (still L i) (suc i) u ms bs t
    go (is_true e) =
        rest-after q L i u (m ∷ ms) bs t (omega (arith, leb-true L (suc i) e))
        ∙ sym (rest-after (suc q) (still L i) (suc i) u ms bs t (omega (arith, still-left L i, leb-true L (suc i) e)))
    go (is_false e) =
        let a : q + (L - i) ≡ suc q + (L - suc i) = omega (arith, leb-false L (suc i) e) in
        let b : i + (t - q) ≡ suc i + (t - suc q) = omega arith in
        let c : t - q ≡ suc (t - suc q) = omega arith in
        rw (e, a, b, c)

-- a block in front is its own rest from its byte 0
pub rest-block : (b : Block) (bs : List Block) (t : ℕ) → b.base ≤ t → rest_at b.base (len b) 0 b.literal b.marks bs t ≡ pairs (b ∷ bs) t
unfolding rest_at layer
rest-block b bs t h = rw (le-leb b.base t h, zero-add (t - b.base), sub-zero (len b))

-- the two bytes at t are these
abbrev pub Shows : (pr se : ℕ → ℕ) → (t : ℕ) → ℕ × ℕ → Type 0
Shows pr se t c = (pr t ≡ c.0) × (se t ≡ c.1)

-- the bytes from q on are those of a block's rest and of the blocks after it
pub record Rest (size : ℕ) (pr se : ℕ → ℕ) (q L i : ℕ) (u : Bool) (ms : List Bool) (bs : List Block) : Type 0 where
  pub long : length ms ≡ L - i
  pub fits : q + (L - i) ≤ size
  pub placed : Placed (stack_rules 0 size) (q + (L - i)) bs
  pub proper : u ≡ true → ms ≡ replicate (length ms) true
  pub same : (t : ℕ) → q ≤ t → t < size → Shows pr se t (rest_at q L i u ms bs t)

-- no marks are all set
pub no-marks-proper : (ms : List Bool) → length ms ≡ 0 → ms ≡ replicate (length ms) true
no-marks-proper [] e = refl
no-marks-proper (m ∷ ms) e = absurd (omega arith)

abbrev tail : List Bool → List Bool
tail [] = []
tail (m ∷ ms) = ms

-- below a placed list both bytes are zero
low : (size : ℕ) (bs : List Block) (from t : ℕ) → Placed (stack_rules 0 size) from bs → t < from → pairs bs t ≡ (0, 0)
low size bs from t P h = layer-low (stack_rules 0 size) (stack-sound 0 size) covers (λ p. p) (in-foot size) t _ (0, 0) bs from P h

module _ (size : ℕ) (pr se : ℕ → ℕ) where
  -- what covers at q and after q
  from_next : (P : ℕ → Type 0) (q : ℕ) → P q → ((t : ℕ) → suc q ≤ t → t < size → P t) → (t : ℕ) → q ≤ t → t < size → P t
  from_next P q x y t h k = go (test (eqb q t))
    where
      go : Test (eqb q t) → P t
      go (is_true e) = subst P (eqb-true q t e) x
      go (is_false e) = y t (lt_of_le-ne h (eqb-false q t e)) k

  -- ---- a byte that no block covers

  pub clear-on : (q i : ℕ) (u : Bool) (ms : List Bool) (bs : List Block) → Shows pr se q (0, 0) → Rest size pr se (suc q) 0 0 false ms bs → Rest size pr se q 0 i u ms bs
  clear-on q i u ms bs s r =
      record {
        long = omega (arith, r.long);
        fits = omega (arith, r.fits);
        placed = weaken (stack_rules 0 size) bs (suc q + (0 - 0)) (q + (0 - i)) (omega arith) r.placed;
        proper = λ t. no-marks-proper ms (omega (arith, r.long));
        same = from_next (λ (t : ℕ). Shows pr se t (rest_at q 0 i u ms bs t)) q
            (subst (Shows pr se q) (sym (rest-after q 0 i u ms bs q (omega arith) ∙ low size bs (suc q + (0 - 0)) q r.placed (omega arith))) s)
            (λ t h k. subst (Shows pr se t) (rest-after (suc q) 0 0 false ms bs t (omega arith) ∙ sym (rest-after q 0 i u ms bs t (omega arith))) (r.same t h k));
      }

  pub clear-off : (q i : ℕ) (u : Bool) (ms : List Bool) (bs : List Block) → q < size → Placed (stack_rules 0 size) (suc q) bs
      → Rest size pr se q 0 i u ms bs → Shows pr se q (0, 0) × Rest size pr se (suc q) 0 0 false ms bs
  clear-off q i u ms bs h P r = (
    subst (Shows pr se q) (rest-after q 0 i u ms bs q (omega arith) ∙ low size bs (suc q) q P (omega arith)) (r.same q (omega arith) h),
    record {
      long = omega (arith, r.long);
      fits = omega arith;
      placed = weaken (stack_rules 0 size) bs (suc q) (suc q + (0 - 0)) (omega arith) P;
      proper = λ t. no-marks-proper ms (omega (arith, r.long));
      same = λ t x k. subst (Shows pr se t) (rest-after q 0 i u ms bs t (omega arith) ∙ sym (rest-after (suc q) 0 0 false ms bs t (omega arith))) (r.same t (omega arith) k);
    },
  )

  -- ---- a byte of the block that goes on

  module _ (q L i : ℕ) (u m : Bool) (ms : List Bool) (bs : List Block) (h : i < L) where
    left : suc q + (still L i - suc i) ≡ q + (L - i)
    left = omega (arith, still-left L i)

    pub byte-on : Shows pr se q (pair L i u m) → (u ≡ true → m ≡ true) → Rest size pr se (suc q) (still L i) (suc i) u ms bs → Rest size pr se q L i u (m ∷ ms) bs
    byte-on s w r =
        record {
          long = omega (arith, r.long, still-left L i);
          fits = rw left at r.fits;
          placed = rw left at r.placed;
          proper = λ t. rw (w t) (ap (λ (ns : List Bool). true ∷ ns) (r.proper t));
          same = from_next (λ (t : ℕ). Shows pr se t (rest_at q L i u (m ∷ ms) bs t)) q
              (subst (Shows pr se q) (sym (rest-first q L i u m ms bs h)) s)
              (λ t x k. subst (Shows pr se t) (sym (rest-next q L i u m ms bs t h x)) (r.same t x k));
        }

    pub byte-off : q < size → Rest size pr se q L i u (m ∷ ms) bs
        → Shows pr se q (pair L i u m) × (u ≡ true → m ≡ true) × Rest size pr se (suc q) (still L i) (suc i) u ms bs
    byte-off k r = (
      subst (Shows pr se q) (rest-first q L i u m ms bs h) (r.same q (omega arith) k),
      λ t. ap (λ (ns : List Bool). get_or ns 0 true) (r.proper t),
      record {
        long = omega (arith, r.long, still-left L i);
        fits = rw left r.fits;
        placed = rw left r.placed;
        proper = λ t. ap tail (r.proper t);
        same = λ t x y. subst (Shows pr se t) (rest-next q L i u m ms bs t h x) (r.same t (omega arith) y);
      },
    )

  -- ---- a block begins

  pub block_on : (i : ℕ) (u : Bool) (b : Block) (bs : List Block) → 1 ≤ len b
      → Rest size pr se b.base (len b) 0 b.literal b.marks bs → Rest size pr se b.base 0 i u [] (b ∷ bs)
  block_on i u b bs n r =
      record {
        long = omega arith;
        fits = omega (arith, r.fits);
        proper = λ t. refl;
        placed = record {
          some = n;
          fits = span-stack 0 size b.base (len b) (record { from = omega arith; to = omega (arith, r.fits); begins = omega (arith, r.fits) });
          aligned = refl;
          proper = λ t. (refl, r.proper t);
          room = omega arith;
          later = rw sub-zero at r.placed;
        };
        same = λ t h k. subst (Shows pr se t) (rest-block b bs t h ∙ sym (rest-after b.base 0 i u [] (b ∷ bs) t (omega arith))) (r.same t h k);
      }

  pub block-off : (i : ℕ) (u : Bool) (ms : List Bool) (b : Block) (bs : List Block)
      → Rest size pr se b.base 0 i u ms (b ∷ bs) → Rest size pr se b.base (len b) 0 b.literal b.marks bs
  block-off i u ms b bs r =
      record {
        long = sym (sub-zero (len b));
        fits = omega (arith, stack-span 0 size b.base (len b) r.placed.fits);
        placed = rw sub-zero r.placed.later;
        proper = λ t. (r.placed.proper t).1;
        same = λ t h k. subst (Shows pr se t) (rest-after b.base 0 i u ms (b ∷ bs) t (omega arith) ∙ sym (rest-block b bs t h)) (r.same t h k);
      }
