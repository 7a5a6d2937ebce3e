-- Blocks, lists of them and the choice among gaps are those that the library is proved against. Assumes nothing.
use mathlib.Core.Path.{◌≡◌, refl}
use mathlib.Core.Bool.{Bool, ◌||◌}
use mathlib.Core.List.{List, [], ◌∷◌}
use Prim.Native.Nat.{ℕ, zero, suc}
use Rattle.number.proofs.TestLaws.{Test, is_true, is_false, test}
use Rattle.types.specs.declared.Beginning.{Beginning}
use Rattle.types.specs.declared.Beginning.TheVariants.{Unwritten, Written, Literal}
use Rattle.types.specs.Block.{Block}
use Rattle.types.specs.Gap.{Gap}
use Rattle.plain.specs.Block as block
use Rattle.plain.specs.Blocks as list
use Rattle.plain.specs.Gaps as gap
use Rattle.specification.specs.Calls.{begun, is_for_literal}
use Rattle.specification.specs.Blocks.{holds, all_written, any, find, insert, without, with_byte, with_bytes, total}
use Rattle.specification.specs.Place.{best}

-- ---- one block

pub begun-same : (how : Beginning) (b l : ℕ) → begun how b l ≡ block.begun how b l
begun-same Unwritten b l = refl
begun-same Written b l = refl
begun-same Literal b l = refl

pub literal-same : (how : Beginning) → is_for_literal how ≡ block.starts_literal how
literal-same how = refl

pub holds_same : (a n : ℕ) (b : Block) → holds a n b ≡ block.holds a n b
unfolding holds block.holds
holds_same a n b = refl

pub written_same : (a n : ℕ) (b : Block) → all_written a n b ≡ block.all_written a n b
unfolding all_written block.all_written
written_same a zero b = refl
written_same a (suc n) b = rw (written_same (suc a) n b)

-- ---- lists

pub any_same : (p q : Block → Bool) → ((b : Block) → p b ≡ q b) → (bs : List Block) → any p bs ≡ list.any q bs
unfolding any list.find
any_same p q e [] = refl
any_same p q e (b ∷ bs) = rw (e b, any_same p q e bs) (go (test (q b)))
  where
    go : Test (q b) → (q b || list.any q bs) ≡ list.any q (b ∷ bs)
    go (is_true t) = rw t
    go (is_false t) = rw t

pub find-same : (p : Block → Bool) (bs : List Block) → find p bs ≡ list.find p bs
unfolding find list.find
find-same p [] = refl
find-same p (b ∷ bs) = rw (find-same p bs)

pub insert-same : (b : Block) (bs : List Block) → insert b bs ≡ list.insert b bs
unfolding insert list.insert
insert-same b [] = refl
insert-same b (c ∷ bs) = rw (insert-same b bs)

pub without-same : (x : ℕ) (bs : List Block) → without x bs ≡ list.remove x bs
unfolding without list.remove
without-same x [] = refl
without-same x (b ∷ bs) = rw (without-same x bs)

pub byte-same : (a : ℕ) (bs : List Block) → with_byte a bs ≡ list.mark_one a bs
unfolding with_byte list.mark_one
byte-same a [] = refl
byte-same a (b ∷ bs) = rw (byte-same a bs)

pub bytes_same : (a n : ℕ) (bs : List Block) → with_bytes a n bs ≡ list.mark_all a n bs
unfolding with_bytes list.mark_all
bytes_same a zero bs = refl
bytes_same a (suc n) bs = rw (byte-same a bs) (bytes_same (suc a) n (list.mark_one a bs))

pub total-same : (f g : Block → ℕ) → ((b : Block) → f b ≡ g b) → (bs : List Block) → total f bs ≡ list.total g bs
unfolding total list.total
total-same f g e [] = refl
total-same f g e (b ∷ bs) = rw (e b, total-same f g e bs)

-- ---- gaps

pub best-same : (need : ℕ) (gs : List Gap) → best need gs ≡ gap.best need gs
unfolding best gap.best
best-same need [] = refl
best-same need (g ∷ gs) = rw (best-same need gs)
