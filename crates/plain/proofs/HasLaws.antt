-- A block that is listed, through questions and changes of the list. Assumes nothing.
use mathlib.Core.Path.{◌≡◌, refl, subst, sym}
use mathlib.Core.Bool.{Bool, true, false, cond}
use mathlib.Core.List.{List, ◌∷◌, map}
use mathlib.Core.Option.{Option, none, some}
use Prim.Native.Nat.{ℕ, zero, suc}
use lib.ListN.{replicate}
use lib.Dec.{ltb}
use Rattle.plain.specs.Block.{Block, len, contains, has_base, mark_block}
use Rattle.plain.specs.Blocks.{find, found, any, Has, here, there, insert, remove, mark_one, mark_all}
use Rattle.plain.specs.Join.{only}
use Rattle.plain.proofs.ListLaws.{find-has}
use Rattle.plain.proofs.KeptLaws.{mark-all}

pub has-any : (p : Block → Bool) {b : Block} {bs : List Block} → Has b bs → p b ≡ true → any p bs ≡ true
unfolding find
has-any p here e = rw e
has-any p (there {c = c} {bs = cs} h) e = go (p c) (has-any p h e)
  where
    go : (t : Bool) → any p cs ≡ true → found (cond t (some c) (find p cs)) ≡ true
    go true ih = refl
    go false ih = ih

pub none_any : (p : Block → Bool) (bs : List Block) → ((b : Block) → Has b bs → p b ≡ true → ⊥) → any p bs ≡ false
none_any p bs h = go (find p bs) refl
  where
    go : (o : Option Block) → find p bs ≡ o → found o ≡ false
    go none e = refl
    go (some b) e = let k = find-has p bs b e in absurd (h b k.0 k.1)

pub has-insert : (c : Block) {b : Block} {bs : List Block} → Has b bs → Has b (insert c bs)
unfolding insert
has-insert c {b} (here {bs = bs}) = go (ltb c.base b.base)
  where
    go : (t : Bool) → Has b (cond t (c ∷ b ∷ bs) (b ∷ insert c bs))
    go true = there here
    go false = here
has-insert c {b} (there {c = d} {bs = bs} h) = go (ltb c.base d.base) (has-insert c h)
  where
    go : (t : Bool) → Has b (insert c bs) → Has b (cond t (c ∷ d ∷ bs) (d ∷ insert c bs))
    go true ih = there (there h)
    go false ih = there ih

pub has-remove : (x : ℕ) {b : Block} {bs : List Block} → has_base x b ≡ false → Has b bs → Has b (remove x bs)
unfolding remove
has-remove x n here = rw n here
has-remove x {b} n (there {c = c} {bs = bs} h) = go (has_base x c) (has-remove x n h)
  where
    go : (t : Bool) → Has b (remove x bs) → Has b (cond t bs (c ∷ remove x bs))
    go true ih = h
    go false ih = there ih

-- marks leave a block whose bytes are all written
pub has-mark : (a : ℕ) {b : Block} {bs : List Block} → b.marks ≡ replicate (len b) true → Has b bs → Has b (mark_one a bs)
unfolding mark_one
has-mark a {b} e (here {bs = bs}) = go (contains a b)
  where
    go : (t : Bool) → Has b (cond t (mark_block a b ∷ bs) (b ∷ mark_one a bs))
    go true = subst (λ (c : Block). Has b (c ∷ bs)) (sym (mark-all a b e)) here
    go false = here
has-mark a {b} e (there {c = c} {bs = bs} h) = go (contains a c) (has-mark a e h)
  where
    go : (t : Bool) → Has b (mark_one a bs) → Has b (cond t (mark_block a c ∷ bs) (c ∷ mark_one a bs))
    go true ih = there h
    go false ih = there ih

pub has-marks : (n a : ℕ) {b : Block} {bs : List Block} → b.marks ≡ replicate (len b) true → Has b bs → Has b (mark_all a n bs)
unfolding mark_all
has-marks zero a e h = h
has-marks (suc n) a e h = has-marks n (suc a) e (has-mark a e h)

pub has-only : (p : ℕ → Bool) {b : Block} {bs : List Block} → p b.base ≡ true → Has b bs → Has b (only p bs)
unfolding only
has-only p e here = rw e here
has-only p {b} e (there {c = c} {bs = bs} h) = go (p c.base) (has-only p e h)
  where
    go : (t : Bool) → Has b (only p bs) → Has b (cond t (c ∷ only p bs) (only p bs))
    go true ih = there ih
    go false ih = ih

pub has-map : (f : Block → Block) {b : Block} {bs : List Block} → Has b bs → Has (f b) (map f bs)
has-map f here = here
has-map f (there h) = there (has-map f h)
