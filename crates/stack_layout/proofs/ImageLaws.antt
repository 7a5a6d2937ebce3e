-- The image of a placed list of stack blocks: its bytes, its readings, and where there is room. Assumes nothing.
use mathlib.Core.Path.{◌≡◌, refl, ap, ◌∙◌}
use mathlib.Core.Bool.{Bool, true, false, ◌&&◌, not}
use mathlib.Core.List.{List}
use mathlib.Core.Option.{Option, none, some}
use Prim.Native.Nat.{ℕ, ◌+◌, ◌-◌, ◌^◌, ◌≤◌, ◌<◌, max}
use native.Mathlib.Omega.{arith}
use lib.Dec.{ltb}
use borrow.Author.Tests.{ltb-true, not-true}
use Rattle.number.specs.Parts.{at, tab, zeros}
use Rattle.number.proofs.TestLaws.{and-true, in-above, same_test}
use Rattle.number.proofs.BitLaws.{bit-back}
use Rattle.number.proofs.PartLaws.{at-whole, zeros-at, zeros-all}
use Rattle.plain.specs.Block.{Block, len, contains, is_written}
use Rattle.plain.specs.Blocks.{find, found, any}
use Rattle.plain.specs.Rules.{Rules, meets, Placed, Sound}
use Rattle.plain.specs.Areas.{stack_rules}
use Rattle.plain.specs.Reading.{says, lookup}
use Rattle.plain.proofs.BlockLaws.{contains-true, true-contains}
use Rattle.plain.proofs.FindLaws.{Facts, find-facts, find-other, none-outside}
use Rattle.plain.proofs.ListLaws.{find-has}
use Rattle.plain.proofs.AreaLaws.{stack-span, stack-sound}
use Rattle.plain.proofs.LayerLaws.{InFoot, own_of, layer-find, layer-has, layer-apart}
use Rattle.stack_layout.specs.Code.{low_bits}
use Rattle.stack_layout.specs.Image.{primary_own, secondary_own, by_block, primary_byte, secondary_byte}
use Rattle.stack_layout.specs.Reading.{stack_reading}
use Rattle.stack_layout.proofs.CodeLaws.{low-lt, low-written, low-literal, primary-pos}
use Rattle.stack_layout.proofs.ReadingLaws.{read-own, read-zero}

-- the block covers position q
abbrev pub covers : Block → ℕ → Bool
covers b q = contains q b

-- a block's footprint is what it covers
pub in-foot : (size : ℕ) → InFoot (stack_rules 0 size) covers (λ q. q)
in-foot size b q l e = contains-true q b e

-- a range that meets a block
at_meets : (size b l : ℕ) (c : Block) → meets (stack_rules 0 size) b l c ≡ true → (b < c.base + len c) × (c.base < b + l)
unfolding meets
at_meets size b l c e =
    let t = and-true (ltb b (c.base + len c)) (ltb c.base (b + l)) e in
    (ltb-true b (c.base + len c) t.0, ltb-true c.base (b + l) t.1)

module _ (size : ℕ) (bs : List Block) where
  abbrev R : Rules
  R = stack_rules 0 size

  S : Sound R
  S = stack-sound 0 size

  -- a byte is what the block that covers it makes of it
  pub byte-find : (own : Block → ℕ → ℕ) (q : ℕ) → by_block own bs q ≡ own_of own 0 q (find (contains q) bs)
  byte-find own q = layer-find R S covers (λ p. p) (in-foot size) q own 0 bs

  pub byte-own : (own : Block → ℕ → ℕ) (q : ℕ) (b : Block) → find (contains q) bs ≡ some b → by_block own bs q ≡ own b q
  byte-own own q b e = byte-find own q ∙ ap (own_of own 0 q) e

  pub byte-none : (own : Block → ℕ → ℕ) (q : ℕ) → find (contains q) bs ≡ none → by_block own bs q ≡ 0
  byte-none own q e = byte-find own q ∙ ap (own_of own 0 q) e

  module _ (P : Placed (stack_rules 0 size) 0 bs) where
    -- each byte of the block that covers p is that block's
    pub byte-same : (own : Block → ℕ → ℕ) (p q : ℕ) (b : Block) → find (contains p) bs ≡ some b → b.base ≤ q → q < b.base + len b
        → by_block own bs q ≡ own b q
    byte-same own p q b e x y = byte-own own q b (find-other R S bs p q b P e (true-contains q b x y))

    -- the image, as a function of the position
    pub at-image : (own : Block → ℕ → ℕ) → at (tab 0 size (by_block own bs)) ≡ by_block own bs
    at-image own = at-whole size (by_block own bs) (λ q h. byte-none own q (none-outside R S bs 0 q P (in-above 0 (0 + size) q (omega arith))))

    -- the key lemma: the reading of the image is the list's own answer
    pub read-image : size < 256 ^ 4 → (p : ℕ) → stack_reading size (primary_byte bs) (secondary_byte bs) p ≡ lookup bs p
    unfolding primary_own secondary_own
    read-image small p = go (find (contains p) bs) refl
      where
        go : (o : Option Block) → find (contains p) bs ≡ o → stack_reading size (primary_byte bs) (secondary_byte bs) p ≡ says p o
        go none e = read-zero size (primary_byte bs) (secondary_byte bs) p (byte-none primary_own p e)
        go (some b) e =
            let F : Facts R S (contains p) b = find-facts R S bs 0 (contains p) b P e in
            let h = contains-true p b F.so in
            let m : ℕ = low_bits b.literal (is_written b p) in
            read-own size small (primary_byte bs) (secondary_byte bs) p b.base (len b) m h.0 h.1
            (omega (arith, stack-span 0 size b.base (len b) F.fits)) (low-lt b.literal (is_written b p)) (byte-own primary_own p b e)
            (λ q x y. byte-same secondary_own p q b e x y)
            ∙ rw (low-written b.literal (is_written b p), low-literal b.literal (is_written b p), bit-back b.literal)

    -- refusal 6: the bytes of a range are zero exactly where no block meets it
    pub vacant-image : (b l : ℕ) → 1 ≤ l
        → (zeros (primary_byte bs) b l && zeros (secondary_byte bs) b l) ≡ not (any (meets (stack_rules 0 size) b l) bs)
    unfolding primary_own
    vacant-image b l n =
        same_test (zeros (primary_byte bs) b l && zeros (secondary_byte bs) b l) (not (any (meets R b l) bs))
        (λ z. free (and-true (zeros (primary_byte bs) b l) (zeros (secondary_byte bs) b l) z).0 (find (meets R b l) bs) refl)
        (λ m. rw (clear primary_own (not-true (any (meets R b l) bs) m), clear secondary_own (not-true (any (meets R b l) bs) m)))
      where
        free : zeros (primary_byte bs) b l ≡ true → (o : Option Block) → find (meets R b l) bs ≡ o → not (found o) ≡ true
        free z none e = refl
        free z (some c) e =
            let F : Facts R S (meets R b l) c = find-facts R S bs 0 (meets R b l) c P e in
            let m = at_meets size b l c F.so in
            let k : 1 ≤ len c = F.some in
            let q : ℕ = max b c.base in
            let w : b + (q - b) ≡ q = omega arith in
            let h : contains q c ≡ true = true-contains q c (omega arith) (omega arith) in
            let own : primary_byte bs q ≡ primary_own c q =
            layer-has R S covers (λ p. p) (in-foot size) q primary_own 0 0 P (find-has (meets R b l) bs c e).0 h in
            let zero : primary_byte bs q ≡ 0 = rw w at (zeros-at (primary_byte bs) b l (q - b) z (omega arith)) in
            absurd (omega (arith, primary-pos (len c) (q - c.base) (low_bits c.literal (is_written c q))))

        clear : (own : Block → ℕ → ℕ) → any (meets R b l) bs ≡ false → zeros (by_block own bs) b l ≡ true
        clear own m = zeros-all (by_block own bs) b l
            (λ i k. layer-apart R S covers (λ p. p) (in-foot size) (b + i) own 0 b l bs 0 P m (omega arith) (omega arith))
