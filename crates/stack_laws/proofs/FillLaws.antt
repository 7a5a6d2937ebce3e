-- Parts of a list that are written from the front, one after another, or lent whole. Assumes nothing.
use mathlib.Core.Path.{◌≡◌, ap, ◌∙◌}
use mathlib.Core.List.{List, ◌++◌}
use Prim.Native.Nat.{ℕ, ◌+◌, ◌-◌, ◌≤◌, ◌<◌}
use native.Mathlib.Omega.{arith}
use native.Mathlib.Nat.{zero-add}
use native.Mathlib.Numerals.{add-one}
use lib.ListN.{length, set, take, drop}
use Rattle.number.specs.Parts.{at, over}
use Rattle.number.proofs.PartLaws.{length_over, over-in, over-above, over-more, part_length, over-part}

-- one byte more of a part that a loop writes from the front
pub fill_step : (h l : List ℕ) (i v : ℕ) (f : ℕ → ℕ) → i < length h → l ≡ over 0 i f h → v ≡ f i → set l i v ≡ over 0 (i + 1) f h
fill_step h l i v f k e x =
    let z : 0 + i ≡ i = zero-add i in
    rw (e, x, add-one i) (rw z at (over-more 0 i f h (omega arith)))

-- the byte that the loop comes to is as it was
pub fill-read : (h l : List ℕ) (i : ℕ) (f : ℕ → ℕ) → i < length h → l ≡ over 0 i f h → at l i ≡ at h i
fill-read h l i f k e = rw e (over-above 0 i f h i k (omega arith))

-- a part that was lent and filled
pub over-lent : (xs last : List ℕ) (a n : ℕ) (f g : ℕ → ℕ) → a + n ≤ length xs
    → last ≡ over 0 (length (take ((a + n) - a) (drop a xs))) g (take ((a + n) - a) (drop a xs))
    → ((i : ℕ) → i < n → g i ≡ f (a + i)) → take a xs ++ (last ++ drop ((a + n) - a) (drop a xs)) ≡ over a n f xs
over-lent xs last a n f g h e k =
    let part = take ((a + n) - a) (drop a xs) in
    let l : length part ≡ n = part_length xs a n h in
    over-part xs last a n f h (ap length e ∙ length_over 0 (length part) g part ∙ l)
    (λ i x. rw e (over-in 0 (length part) g part i (omega arith) (omega arith) (omega arith) ∙ k i x))
