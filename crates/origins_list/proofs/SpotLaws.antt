-- A placed list of blocks, address by address: which block stands there, by its base and length. Assumes nothing.
use mathlib.Core.Path.{◌≡◌, refl, sym, ap, ◌∙◌}
use mathlib.Core.Bool.{Bool, true, false, cond, ◌&&◌}
use mathlib.Core.List.{List, [], ◌∷◌}
use mathlib.Core.Option.{Option, none, some}
use Prim.Native.Nat.{ℕ, zero, suc, ◌+◌, ◌-◌, ◌≤◌, ◌<◌}
use native.Mathlib.Omega.{arith}
use lib.ListN.{length-set, length-replicate}
use lib.Dec.{leb, ltb, eqb}
use borrow.Author.Tests.{eq-eqb, eqb-true}
use Rattle.number.proofs.TestLaws.{Test, is_true, is_false, test, same_test}
use Rattle.types.specs.declared.Beginning.{Beginning}
use Rattle.plain.specs.Block.{Block, len, starts_written, begun, contains, holds, has_base, mark_block}
use Rattle.plain.specs.Blocks.{find, found, any, insert, remove, mark_one, mark_all}
use Rattle.plain.specs.Rules.{Rules, Placed, Sound, meets}
use Rattle.plain.specs.Layer.{layer}
use Rattle.plain.proofs.BlockLaws.{contains-true, true-contains, holds-true, holds-one, base-holds, offset-test}
use Rattle.plain.proofs.FindLaws.{keep_if, find_at, find-facts, find-other}
use Rattle.plain.proofs.ListLaws.{find-has}
use Rattle.plain.proofs.LayerLaws.{Listed, InFoot, own_of, layer-find, layer-apart, layer-insert, layer-remove}
use Rattle.plain.proofs.RunLaws.{Joins}

-- no block, or one of this base and length
pub data Spot : Type 0 where
  vacant : Spot
  taken : (base length : ℕ) → Spot

abbrev stands : Block → ℕ → Spot
stands b a = taken b.base (len b)

abbrev covers : Block → ℕ → Bool
covers b a = contains a b

-- what stands at an address
abbrev pub spot : List Block → ℕ → Spot
spot bs a = own_of stands vacant a (find (contains a) bs)

-- the address is one of the l addresses from b on
abbrev pub spans : (b l a : ℕ) → Bool
spans b l a = leb b a && ltb a (b + l)

-- the block there begins at this address
abbrev pub is_base : ℕ → Spot → Bool
is_base a vacant = false
is_base a (taken b l) = eqb b a

-- the block there holds four bytes from this address on
abbrev pub has_four : ℕ → Spot → Bool
has_four a vacant = false
has_four a (taken b l) = leb (a - b + 4) l

-- the block of base b is taken away, l its length
abbrev pub without : (b l : ℕ) → (ℕ → Spot) → ℕ → Spot
without b l s a = cond (spans b l a) vacant (s a)

-- ---- marks change no place

same_place : (p a : ℕ) (c : Block) → contains a (mark_block p c) ≡ contains a c
same_place p a c = rw (length-set c.marks (p - c.base) true)

spot-mark : (p a : ℕ) (bs : List Block) → spot (mark_one p bs) a ≡ spot bs a
unfolding find mark_one
spot-mark p a [] = refl
spot-mark p a (c ∷ cs) = go (contains p c) (test (contains a c)) (spot-mark p a cs)
  where
    ls : len (mark_block p c) ≡ len c
    ls = length-set c.marks (p - c.base) true

    go : (t : Bool) → Test (contains a c) → spot (mark_one p cs) a ≡ spot cs a
        → spot (cond t (mark_block p c ∷ cs) (c ∷ mark_one p cs)) a ≡ spot (c ∷ cs) a
    go true (is_true h) ih = rw (same_place p a c, h, ls)
    go true (is_false h) ih = rw (same_place p a c, h)
    go false (is_true h) ih = rw h
    go false (is_false h) ih = rw h ih

pub spot-marks : (n p a : ℕ) (bs : List Block) → spot (mark_all p n bs) a ≡ spot bs a
unfolding mark_all
spot-marks zero p a bs = refl
spot-marks (suc n) p a bs = spot-marks n (suc p) a (mark_one p bs) ∙ spot-mark p a bs

module _ (R : Rules) (G : Sound R) where
  foot : InFoot R covers (λ a. a)
  foot b a l e = let h = contains-true a b e in (omega (arith, h, G.low_base b.base (len b) l.fits), omega (arith, h, G.high_end b.base (len b)))

  layered : (bs : List Block) (a : ℕ) → spot bs a ≡ layer covers stands vacant bs a
  layered bs a = sym (layer-find R G covers (λ x. x) foot a stands vacant bs)

  -- ---- a block joins, a block goes

  pub spot-insert : (h : Beginning) (b l : ℕ) (bs : List Block) → Placed R 0 bs → Joins R h b l bs → (a : ℕ)
      → spot (insert (begun h b l) bs) a ≡ cond (spans b l a) (taken b l) (spot bs a)
  unfolding layer
  spot-insert h b l bs P j a =
      layered (insert (begun h b l) bs) a
      ∙ layer-insert R G covers (λ x. x) foot a stands vacant (begun h b l) bs 0
      (record { some = rw ln j.some; fits = rw ln j.fits; aligned = j.aligned; room = omega arith }) P (rw ln j.alone)
      ∙ rw (ln, ← layered bs a)
    where
      ln : len (begun h b l) ≡ l
      ln = length-replicate l (starts_written h)

  -- where no footprint meets that of a block, no block stands at its addresses
  pub spot-alone : (h : Beginning) (b l : ℕ) (bs : List Block) → Placed R 0 bs → Joins R h b l bs → (a : ℕ) → b ≤ a → a < b + l → spot bs a ≡ vacant
  spot-alone h b l bs P j a x y =
      layered bs a
      ∙ layer-apart R G covers (λ x. x) foot a stands vacant b l bs 0 P j.alone (omega (arith, x, G.low_base b l j.fits)) (omega (arith, y, G.high_end b l))

  pub spot-remove : (x : ℕ) (d : Block) (bs : List Block) → Placed R 0 bs → find (has_base x) bs ≡ some d → (a : ℕ)
      → spot (remove x bs) a ≡ without x (len d) (spot bs) a
  spot-remove x d bs P e a =
      let h = find-has (has_base x) bs d e in
      let z : d.base ≡ x = eqb-true d.base x h.1 in
      rw (← z) (layered (remove d.base bs) a ∙ layer-remove R G covers (λ x. x) foot a stands vacant 0 P h.0 ∙ rw (← layered bs a))

  module _ (bs : List Block) (P : Placed R 0 bs) where
    -- ---- what is known of a block that stands somewhere

    pub record There (a b l : ℕ) : Type 0 where
      pub from : b ≤ a
      pub to : a < b + l
      pub some : 1 ≤ l
      pub fits : R.fits b l ≡ true
      pub all : (c : ℕ) → b ≤ c → c < b + l → spot bs c ≡ taken b l

    there-at : (a : ℕ) (d : Block) → find (contains a) bs ≡ some d → There a d.base (len d)
    there-at a d e =
        let f = find-facts R G bs 0 (contains a) d P e in
        let h = contains-true a d f.so in
        record {
          from = h.0;
          to = h.1;
          some = f.some;
          fits = f.fits;
          all = λ c x y. rw (find-other R G bs a c d P e (true-contains c d x y));
        }

    pub there : (a b l : ℕ) → spot bs a ≡ taken b l → There a b l
    there a b l e = go (find (contains a) bs) refl e
      where
        go : (o : Option Block) → find (contains a) bs ≡ o → own_of stands vacant a o ≡ taken b l → There a b l
        go none q e = absurd (let z : ◌≡◌ {A = ℕ} 0 1 = cc in omega arith)
        go (some d) q e =
            let x : d.base ≡ b = cc in
            let y : len d ≡ l = cc in
            rw (← x, ← y) (there-at a d q)

    -- ---- tests of the list are tests of what stands there

    at_base : (x : ℕ) → find (has_base x) bs ≡ keep_if (has_base x) (find (contains x) bs)
    at_base x = find_at R G bs 0 x (has_base x) P (λ c l w. base-holds x c l w)

    pub any-base : (x : ℕ) → any (has_base x) bs ≡ is_base x (spot bs x)
    any-base x = ap found (at_base x) ∙ go (find (contains x) bs)
      where
        tell : (d : Block) (t : Bool) → found (cond t (some d) none) ≡ t
        tell d true = refl
        tell d false = refl

        go : (o : Option Block) → found (keep_if (has_base x) o) ≡ is_base x (own_of stands vacant x o)
        go none = refl
        go (some d) = tell d (has_base x d)

    -- the block of a base stands there
    pub spot_base : (x : ℕ) (d : Block) → find (has_base x) bs ≡ some d → spot bs x ≡ taken x (len d)
    spot_base x d e = go (find (contains x) bs) (sym (at_base x) ∙ e)
      where
        go : (o : Option Block) → keep_if (has_base x) o ≡ some d → own_of stands vacant x o ≡ taken x (len d)
        go none q = absurd (let z : ◌≡◌ {A = ℕ} 0 1 = cc in omega arith)
        go (some c) q = at_block (test (has_base x c))
          where
            at_block : Test (has_base x c) → taken c.base (len c) ≡ taken x (len d)
            at_block (is_true t) = let p : some c ≡ some d = rw t at q in let z : c ≡ d = cc in rw (eqb-true c.base x t, z)
            at_block (is_false t) = absurd (let p : none ≡ some d = rw t at q in let z : ◌≡◌ {A = ℕ} 0 1 = cc in omega arith)

    pub any-four : (c : ℕ) → any (holds c 4) bs ≡ has_four c (spot bs c)
    any-four c = ap found (find_at R G bs 0 c (holds c 4) P (λ d l w. holds-one c 4 d (omega arith) w)) ∙ go (find (contains c) bs) refl
      where
        tell : (d : Block) (t : Bool) → found (cond t (some d) none) ≡ t
        tell d true = refl
        tell d false = refl

        go : (o : Option Block) → find (contains c) bs ≡ o → found (keep_if (holds c 4) o) ≡ has_four c (own_of stands vacant c o)
        go none q = refl
        go (some d) q = tell d (holds c 4 d) ∙ sym (offset-test c 4 d (there-at c d q).from)
