-- Copies that a loop makes, a byte a turn, and parts that stay. Assumes nothing.
use mathlib.Core.Path.{◌≡◌, ap, ◌∙◌}
use mathlib.Core.List.{List, [], ◌∷◌, ◌++◌}
use Prim.Native.Nat.{ℕ, zero, suc, ◌+◌, ◌≤◌, ◌<◌}
use native.Mathlib.Omega.{arith}
use native.Mathlib.Nat.{zero-add, suc-add, add_comm}
use native.Mathlib.Numerals.{add-one}
use lib.ListN.{length, get_or, set, take, drop, length-drop}
use lib.Seq.{paste, paste-suc, take-paste, drop-paste, get_or-drop, take-take, take-append-le, length-take-le, take-nil}

-- one byte more
pub copy_step : (d l s : List ℕ) (p i q v : ℕ) → q ≡ p + i → q < length d → i < length s → l ≡ paste d p s i → v ≡ get_or s i 0
    → set l q v ≡ paste d p s (i + 1)
copy_step d l s p i q v w h k e x = rw (w, e, x, add-one i) (paste-suc d p s i 0 (omega arith) k)

-- a copy to the front of a later part: the bytes that it comes to are as they were
pub later-read : (d l : List ℕ) (from i : ℕ) → from + i < length d → l ≡ paste d 0 (drop from d) i → get_or l (from + i) 0 ≡ get_or (drop from d) i 0
later-read d l from i h e =
    let z : 0 + i ≡ i = zero-add i in
    let k : drop (0 + i) l ≡ drop (0 + i) d = ap (drop (0 + i)) e ∙ drop-paste d 0 (drop from d) i (omega arith) (omega (arith, length-drop from d)) in
    let k' : drop i l ≡ drop i d = rw z at k in
    rw (get_or-drop from d i 0, add_comm from i, ← get_or-drop i l from 0, ← get_or-drop i d from 0) (ap (λ (x : List ℕ). get_or x from 0) k')

-- a whole copy, as far as it goes
pub copied : (d l s : List ℕ) (p n i e : ℕ) → i ≡ n → e ≡ p + n → p ≤ length d → n ≤ length s → l ≡ paste d p s i → take e l ≡ take p d ++ take n s
copied d l s p n i e x y h k w = rw (y, w, x) (take-paste d p s n h k)

-- what stands before a part that was lent and has come back is as it was
pub before-part : (n a : ℕ) (xs ys : List ℕ) → n ≤ a → a ≤ length xs → take n (take a xs ++ ys) ≡ take n xs
before-part n a xs ys h k = take-append-le n (take a xs) ys (omega (arith, length-take-le a xs k)) ∙ take-take n a xs h

pub drop-take : (k m : ℕ) (l : List ℕ) → drop k (take (k + m) l) ≡ take m (drop k l)
drop-take zero m l = rw zero-add
drop-take (suc k) m [] = rw (suc-add, take-nil)
drop-take (suc k) m (x ∷ l) = rw suc-add (drop-take k m l)
