-- A stack block joins, goes, or has a byte written: the shadows change from image to image. Assumes nothing.
use mathlib.Core.Path.{◌≡◌, refl, sym, ap, ◌∙◌, subst}
use mathlib.Core.Bool.{Bool, true, false, cond}
use mathlib.Core.List.{List, [], ◌∷◌}
use mathlib.Core.Option.{some}
use Prim.Native.Nat.{ℕ, ◌+◌, ◌-◌, ◌≤◌, ◌<◌}
use native.Mathlib.Omega.{arith}
use lib.ListN.{set, length-set}
use lib.Seq.{get_or-set_same, get_or-set_other}
use lib.Dec.{eqb}
use borrow.Author.Tests.{eqb-true, eqb-false}
use Rattle.number.specs.Parts.{at, tab, over}
use Rattle.number.proofs.TestLaws.{Test, is_true, is_false, test}
use Rattle.number.proofs.BitLaws.{bit-lt, bit-back}
use Rattle.number.proofs.PartLaws.{length-tab, at-tab, tab-ext, is-tab, over-tab}
use Rattle.plain.specs.Block.{Block, len, contains, has_base, is_written, mark_block}
use Rattle.plain.specs.Blocks.{find, any, insert, remove, mark_one}
use Rattle.plain.specs.Rules.{Rules, meets, Placed, Sound}
use Rattle.plain.specs.Areas.{stack_rules}
use Rattle.plain.specs.Layer.{layer}
use Rattle.plain.proofs.BlockLaws.{contains-true}
use Rattle.plain.proofs.ListLaws.{find-has}
use Rattle.plain.proofs.AreaLaws.{stack-sound}
use Rattle.plain.proofs.LayerLaws.{layer-insert, layer-remove, layer-mark}
use Rattle.stack_layout.specs.Code.{low_bits, primary_of}
use Rattle.stack_layout.specs.Image.{primary_own, secondary_own, by_block, primary_byte, secondary_byte, stack_image}
use Rattle.stack_layout.specs.Ops.{stack_stamp, stack_erase, stack_mark, stack_marked, with_written}
use Rattle.stack_layout.proofs.CodeLaws.{low-lt, low-written, primary-apart}
use Rattle.stack_layout.proofs.ImageLaws.{covers, in-foot, byte-own, byte-same, at-image}

-- a block that covers a place makes it, by itself too
alone : (own : Block → ℕ → ℕ) (b : Block) (bs : List Block) (q : ℕ)
    → cond (contains q b) (by_block own (b ∷ []) q) (by_block own bs q) ≡ by_block own (b ∷ bs) q
unfolding layer
alone own b bs q = go (contains q b)
  where
    go : (t : Bool) → cond t (cond t (own b q) 0) (by_block own bs q) ≡ cond t (own b q) (by_block own bs q)
    go true = refl
    go false = refl

module _ (size : ℕ) (bs : List Block) (P : Placed (stack_rules 0 size) 0 bs) where
  abbrev R : Rules
  R = stack_rules 0 size

  S : Sound R
  S = stack-sound 0 size

  -- a block joins
  pub stamp-image : (b : Block) → 1 ≤ len b → (stack_rules 0 size).fits b.base (len b) ≡ true
      → any (meets (stack_rules 0 size) b.base (len b)) bs ≡ false → stack_stamp (stack_image size bs) b ≡ stack_image size (insert b bs)
  unfolding stack_stamp stack_image
  stamp-image b n f m = rw (one primary_own, one secondary_own)
    where
      one : (own : Block → ℕ → ℕ) → over b.base (len b) (by_block own (b ∷ [])) (tab 0 size (by_block own bs)) ≡ tab 0 size (by_block own (insert b bs))
      one own = over-tab size b.base (len b) (by_block own (b ∷ [])) (by_block own bs) (by_block own (insert b bs))
          (λ q. alone own b bs q
          ∙ sym (layer-insert R S covers (λ p. p) (in-foot size) q own 0 b bs 0 (record { some = n; fits = f; aligned = refl; room = omega arith }) P m))

  -- a block goes
  pub erase-image : (x : ℕ) (b : Block) → find (has_base x) bs ≡ some b → stack_erase (stack_image size bs) x (len b) ≡ stack_image size (remove x bs)
  unfolding stack_erase stack_image
  erase-image x b e =
      let h = find-has (has_base x) bs b e in
      subst (λ (y : ℕ). stack_erase (stack_image size bs) y (len b) ≡ stack_image size (remove y bs)) (eqb-true b.base x h.1)
      (rw (one primary_own, one secondary_own))
    where
      one : (own : Block → ℕ → ℕ) → over b.base (len b) (λ q. 0) (tab 0 size (by_block own bs)) ≡ tab 0 size (by_block own (remove b.base bs))
      one own = over-tab size b.base (len b) (λ q. 0) (by_block own bs) (by_block own (remove b.base bs))
          (λ q. sym (layer-remove R S covers (λ p. p) (in-foot size) q own 0 0 P (find-has (has_base x) bs b e).0))

  -- ---- a byte is written

  module _ (a : ℕ) (b : Block) (e : find (contains a) bs ≡ some b) where
    held : (b.base ≤ a) × (a < b.base + len b)
    held = contains-true a b (find-has (contains a) bs b e).1

    as_long : len (mark_block a b) ≡ len b
    as_long = length-set b.marks (a - b.base) true

    marked-byte : (own : Block → ℕ → ℕ) (q : ℕ) → by_block own (mark_one a bs) q ≡ cond (contains q b) (own (mark_block a b) q) (by_block own bs q)
    marked-byte own q = layer-mark R S covers (λ p. p) (in-foot size) q own 0 a b bs 0 P e (rw as_long)

    -- a byte that the block makes as before stays
    pub same_byte : (own : Block → ℕ → ℕ) (q : ℕ) → (b.base ≤ q → own (mark_block a b) q ≡ own b q) → by_block own (mark_one a bs) q ≡ by_block own bs q
    same_byte own q k = marked-byte own q ∙ go (test (contains q b))
      where
        go : Test (contains q b) → cond (contains q b) (own (mark_block a b) q) (by_block own bs q) ≡ by_block own bs q
        go (is_true t) = let h = contains-true q b t in rw t (k h.0 ∙ sym (byte-same size bs P own a q b e h.0 h.1))
        go (is_false t) = rw t

    pub primary-here : primary_byte (mark_one a bs) a ≡ with_written (primary_byte bs a)
    unfolding primary_own primary_of low_bits
    primary-here =
        rw (
          marked-byte primary_own a,
          (find-has (contains a) bs b e).1,
          byte-own size bs primary_own a b e,
          as_long,
          get_or-set_same b.marks (a - b.base) true false (omega (arith, held)),
        )
        (omega (arith, bit-lt (is_written b a), bit-lt b.literal))

    pub primary-there : (q : ℕ) → (q ≡ a → ⊥) → primary_byte (mark_one a bs) q ≡ primary_byte bs q
    unfolding primary_own
    primary-there q n =
        same_byte primary_own q (λ x. rw (as_long, get_or-set_other b.marks (a - b.base) (q - b.base) true false (λ z. n (omega (arith, held)))))

    -- the written bit is set
    pub mark-image : a < size → stack_mark (stack_image size bs) a ≡ stack_image size (mark_one a bs)
    unfolding stack_mark stack_image secondary_own
    mark-image k =
        rw (
          is-tab size (set l a v) (primary_byte (mark_one a bs)) (length-set l a v ∙ length-tab 0 size (primary_byte bs)) (λ q h. go q h (test (eqb q a))),
          tab-ext size 0 (secondary_byte (mark_one a bs)) (secondary_byte bs) (λ q x y. same_byte secondary_own q (λ z. rw as_long)),
        )
      where
        l : List ℕ
        l = tab 0 size (primary_byte bs)

        v : ℕ
        v = with_written (at l a)

        go : (q : ℕ) → q < size → Test (eqb q a) → at (set l a v) q ≡ primary_byte (mark_one a bs) q
        go q h (is_true t) =
            let z : q ≡ a = eqb-true q a t in
            rw (z, get_or-set_same l a v 0 (rw (length-tab 0 size (primary_byte bs)) k), at-tab size a (primary_byte bs) k) (sym primary-here)
        go q h (is_false t) = get_or-set_other l a q v 0 (eqb-false q a t) ∙ at-tab size q (primary_byte bs) h ∙ sym (primary-there q (eqb-false q a t))

    -- the written bit is the block's mark
    pub marked-image : stack_marked (stack_image size bs) a ≡ is_written b a
    unfolding stack_marked stack_image primary_own
    marked-image =
        rw (
          ap (λ (f : ℕ → ℕ). f a) (at-image size bs P primary_own),
          byte-own size bs primary_own a b e,
          (primary-apart (len b) (a - b.base) (low_bits b.literal (is_written b a)) (low-lt b.literal (is_written b a))).bit,
          low-written b.literal (is_written b a),
        )
        (bit-back (is_written b a))
