-- The readings of the image of a placed list tell the list. Assumes nothing.
use mathlib.Core.Path.{◌≡◌, refl, ap, ◌∙◌, fun_ext}
use mathlib.Core.Bool.{false, cond}
use mathlib.Core.List.{List, [], ◌∷◌}
use mathlib.Core.Option.{Option, none, some}
use Prim.Native.Nat.{ℕ, zero, suc, ◌+◌, ◌-◌, ◌≤◌, ◌<◌}
use native.Mathlib.Omega.{arith}
use native.Mathlib.Nat.{zero-add, add-sub_cancel_left}
use lib.ListN.{get_or}
use borrow.Author.Tests.{eq-eqb, ne_eqb, eqb-true, eqb-false}
use Rattle.number.specs.Bits.{bit}
use Rattle.number.specs.Parts.{tab}
use Rattle.number.proofs.TestLaws.{Test, is_true, is_false, test}
use Rattle.number.proofs.BitLaws.{bit-back}
use Rattle.number.proofs.PartLaws.{tab-eq}
use Rattle.plain.specs.Block.{Block, len, contains, has_base, is_written}
use Rattle.plain.specs.Blocks.{find}
use Rattle.plain.specs.Rules.{Rules, Placed, Sound}
use Rattle.plain.specs.Reading.{Reading, nothing, block, says, lookup}
use Rattle.plain.specs.Ops.{Ops, read_any}
use Rattle.plain.specs.Images.{Images}
use Rattle.plain.specs.ReadBack.{says_written, told, collect, read_back}
use Rattle.plain.proofs.BlockLaws.{contains-true, true-contains, base-holds}
use Rattle.plain.proofs.FindLaws.{keep_if, none_below, find_at, find-facts, none-outside, find-other}
use Rattle.plain.proofs.KeptLaws.{base-inside}

-- a block that was found stands before the others
abbrev add_found : Option Block → List Block → List Block
add_found none bs = bs
add_found (some b) bs = b ∷ bs

-- the first block begins at p or above
abbrev From : ℕ → List Block → Type 0
From p [] = Unit {0}
From p (c ∷ cs) = p ≤ c.base

module _ (R : Rules) (G : Sound R) where
  -- at every address the readings of an image are the list's own
  pub image-reads : {S : Type 0} (O : Ops S) (image : List Block → S) → Images R O image → (bs : List Block) → Placed R 0 bs
      → (a : ℕ) → read_any R O (image bs) a ≡ lookup bs a
  unfolding read_any
  image-reads O image I bs P a = go (test (R.inside a))
    where
      go : Test (R.inside a) → cond (R.inside a) (O.read (image bs) a) nothing ≡ lookup bs a
      go (is_true t) = rw t (I.image_read bs P a t)
      go (is_false t) = rw (t, none-outside R G bs 0 a P t)

  module _ (bs : List Block) (P : Placed R 0 bs) where
    -- the readings of a block's bytes tell its marks
    marks-of : (a : ℕ) (b : Block) → find (contains a) bs ≡ some b → tab 0 (len b) (λ i. says_written (lookup bs (b.base + i))) ≡ b.marks
    marks-of a b e = tab-eq false b.marks 0 (λ i. says_written (lookup bs (b.base + i))) one
      where
        one : (j : ℕ) → j < len b → says_written (lookup bs (b.base + (0 + j))) ≡ get_or b.marks j false
        one j k =
            rw (
              zero-add j,
              find-other R G bs a (b.base + j) b P e (true-contains (b.base + j) b (omega arith) (omega arith)),
              add-sub_cancel_left b.base j,
            ) (bit-back (get_or b.marks j false))

    -- a reading adds the block that begins at its address
    told-found : (a : ℕ) (rest : List Block) → told (lookup bs) (lookup bs a) rest ≡ add_found (find (has_base a) bs) rest
    told-found a rest = rw (find_at R G bs 0 a (has_base a) P (λ c k w. base-holds a c k w)) (go (find (contains a) bs) refl)
      where
        go : (o : Option Block) → find (contains a) bs ≡ o → told (lookup bs) (says a o) rest ≡ add_found (keep_if (has_base a) o) rest
        go none e = refl
        go (some b) e = at (a - b.base) refl
          where
            h : (b.base ≤ a) × (a < b.base + len b)
            h = contains-true a b (find-facts R G bs 0 (contains a) b P e).so

            at : (o : ℕ) → a - b.base ≡ o
                → told (lookup bs) (block b.base (len b) o (bit (is_written b a)) b.literal) rest ≡ add_found (cond (has_base a b) (some b) none) rest
            at zero z = rw (eq-eqb b.base a (omega (arith, h)), marks-of a b e)
            at (suc o) z = rw (ne_eqb b.base a (omega (arith, h)))

  -- from p on, each address adds the block of cs that begins there
  collect-from : (rd : ℕ → Reading) (n p from : ℕ) (cs : List Block) → Placed R from cs → From p cs → R.top ≤ p + n
      → ((q : ℕ) → p ≤ q → (rest : List Block) → told rd (rd q) rest ≡ add_found (find (has_base q) cs) rest) → collect rd p n ≡ cs
  unfolding collect find
  collect-from rd zero p from [] P F t h = refl
  collect-from rd zero p from (c ∷ cs) P F t h =
      absurd (omega (arith, F, G.in_top c.base (base-inside R G c.base (len c) P.some P.fits)))
  collect-from rd (suc n) p from [] P F t h =
      h p (omega arith) (collect rd (suc p) n) ∙ collect-from rd n (suc p) from [] tt tt (omega arith) (λ q k. h q (omega arith))
  collect-from rd (suc n) p from (c ∷ cs) P F t h = go (test (has_base p c)) (collect-from rd n (suc p))
    where
      hi : c.base + len c ≤ R.high c.base (len c)
      hi = G.high_end c.base (len c)

      -- the blocks after c begin above its base
      above : (ds : List Block) → Placed R (R.high c.base (len c)) ds → From (suc c.base) ds
      above [] Q = tt
      above (d ∷ ds) Q = omega (arith, Q.room, hi, P.some, G.low_base d.base (len d) Q.fits)

      go : Test (has_base p c)
          → ((from : ℕ) (ds : List Block) → Placed R from ds → From (suc p) ds → R.top ≤ suc p + n
          → ((q : ℕ) → suc p ≤ q → (rest : List Block) → told rd (rd q) rest ≡ add_found (find (has_base q) ds) rest) → collect rd (suc p) n ≡ ds)
          → told rd (rd p) (collect rd (suc p) n) ≡ c ∷ cs
      go (is_true e) ih =
          let b : c.base ≡ p = eqb-true c.base p e in
          h p (omega arith) (collect rd (suc p) n) ∙ rw e (ap (λ (r : List Block). c ∷ r)
          (ih (R.high c.base (len c)) cs P.later (rw b at (above cs P.later)) (omega arith)
          (λ q k rest. h q (omega arith) rest ∙ rw (ne_eqb c.base q (omega arith)))))
      go (is_false e) ih =
          h p (omega arith) (collect rd (suc p) n)
          ∙ rw (e, none_below R G cs (R.high c.base (len c)) p (has_base p) P.later (omega (arith, F, hi, P.some)) (λ d k w. base-holds p d k w))
          (ih from (c ∷ cs) P (omega (arith, F, eqb-false c.base p e)) (omega arith) (λ q k. h q (omega arith)))

  from_zero : (cs : List Block) → From 0 cs
  from_zero [] = tt
  from_zero (c ∷ cs) = omega arith

  pub collect-lookup : (bs : List Block) → Placed R 0 bs → collect (lookup bs) 0 R.top ≡ bs
  collect-lookup bs P = collect-from (lookup bs) R.top 0 0 bs P (from_zero bs) (omega arith) (λ q k rest. told-found bs P q rest)

  pub read-image : {S : Type 0} (O : Ops S) (image : List Block → S) → Images R O image → (bs : List Block) → Placed R 0 bs
      → read_back R O (image bs) ≡ bs
  read-image O image I bs P = ap (λ (rd : ℕ → Reading). collect rd 0 R.top) (fun_ext (image-reads O image I bs P)) ∙ collect-lookup bs P
