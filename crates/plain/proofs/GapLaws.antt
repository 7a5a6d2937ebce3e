-- The gaps of a heap: the same where the same segments are free, and at every start. Assumes nothing.
use mathlib.Core.Path.{◌≡◌, refl}
use mathlib.Core.Bool.{Bool, true, false, cond}
use mathlib.Core.List.{List, [], ◌∷◌, ◌++◌, map}
use mathlib.Core.Option.{Option, none, some}
use Prim.Native.Nat.{ℕ, zero, suc, ◌+◌, ◌*◌, ◌-◌, ◌≤◌, ◌<◌}
use native.Mathlib.Omega.{arith}
use native.Mathlib.Nat.{zero-add}
use lib.ListN.{length, take}
use lib.Dec.{leb}
use Rattle.plain.specs.Gaps.{Gap, ended, gaps_after, smaller, best}
use Rattle.plain.specs.Lift.{gap_up}

-- a segment that is free, and one that is not
module _ (G from : ℕ) (f : ℕ → Bool) (n i r : ℕ) where
  pub gaps-free : f i ≡ true → gaps_after G from f (suc n) i r ≡ gaps_after G from f n (suc i) (suc r)
  unfolding gaps_after
  gaps-free e = rw e

  pub gaps-taken : f i ≡ false → gaps_after G from f (suc n) i r ≡ ended G from f i r ++ gaps_after G from f n (suc i) 0
  unfolding gaps_after
  gaps-taken e = rw e

-- where the same segments are free, the gaps are the same
pub gaps-same : (G from : ℕ) (f g : ℕ → Bool) (n i r : ℕ) → ((j : ℕ) → i ≤ j → j < i + n → f j ≡ g j) → gaps_after G from f n i r ≡ gaps_after G from g n i r
unfolding gaps_after
gaps-same G from f g zero i r e = refl
gaps-same G from f g (suc n) i r e =
    rw (
      e i (omega arith) (omega arith),
      gaps-same G from f g n (suc i) (suc r) (λ j x y. e j (omega arith) (omega arith)),
      gaps-same G from f g n (suc i) 0 (λ j x y. e j (omega arith) (omega arith)),
    )

-- a heap's gaps are those of a heap that starts at 0, moved up
module _ (G s : ℕ) (f : ℕ → Bool) where
  ended-up : (i r : ℕ) (gs hs : List Gap) → map (gap_up s) gs ≡ hs → map (gap_up s) (ended G 0 f i r ++ gs) ≡ ended G s f i r ++ hs
  ended-up i zero gs hs e = e
  ended-up i (suc r) gs hs e = rw (zero-add ((i - suc r) * G), e)

  pub gaps-up : (n i r : ℕ) → map (gap_up s) (gaps_after G 0 f n i r) ≡ gaps_after G s f n i r
  unfolding gaps_after
  gaps-up zero i zero = refl
  gaps-up zero i (suc r) = rw (zero-add ((i - suc r) * G))
  gaps-up (suc n) i r = go (f i) (gaps-up n (suc i) (suc r)) (gaps-up n (suc i) 0)
    where
      go : (t : Bool) → map (gap_up s) (gaps_after G 0 f n (suc i) (suc r)) ≡ gaps_after G s f n (suc i) (suc r)
          → map (gap_up s) (gaps_after G 0 f n (suc i) 0) ≡ gaps_after G s f n (suc i) 0
          → map (gap_up s) (cond t (gaps_after G 0 f n (suc i) (suc r)) (ended G 0 f i r ++ gaps_after G 0 f n (suc i) 0))
          ≡ cond t (gaps_after G s f n (suc i) (suc r)) (ended G s f i r ++ gaps_after G s f n (suc i) 0)
      go true a b = a
      go false a b = ended-up i r (gaps_after G 0 f n (suc i) 0) (gaps_after G s f n (suc i) 0) b

-- ---- gaps moved up: as many are looked at, and the choice is the same

abbrev pub gaps_up : ℕ → Option Gap → Option Gap
gaps_up s none = none
gaps_up s (some g) = some (gap_up s g)

module _ (s : ℕ) where
  pub take-up : (k : ℕ) (gs : List Gap) → take k (map (gap_up s) gs ++ []) ≡ map (gap_up s) (take k gs)
  take-up zero gs = refl
  take-up (suc k) [] = refl
  take-up (suc k) (g ∷ gs) = rw (take-up k gs)

  pub length_up : (gs : List Gap) → length (map (gap_up s) gs) ≡ length gs
  length_up [] = refl
  length_up (g ∷ gs) = rw (length_up gs)

  smaller-up : (g : Gap) (o : Option Gap) → smaller (gap_up s g) (gaps_up s o) ≡ gaps_up s (smaller g o)
  smaller-up g none = refl
  smaller-up g (some h) = go (leb g.bytes h.bytes)
    where
      go : (t : Bool) → cond t (some (gap_up s g)) (some (gap_up s h)) ≡ gaps_up s (cond t (some g) (some h))
      go true = refl
      go false = refl

  pub best-up : (need : ℕ) (gs : List Gap) → best need (map (gap_up s) gs) ≡ gaps_up s (best need gs)
  unfolding best
  best-up need [] = refl
  best-up need (g ∷ gs) = rw (best-up need gs, smaller-up g (best need gs)) (go (leb need g.bytes))
    where
      go : (t : Bool) → cond t (gaps_up s (smaller g (best need gs))) (gaps_up s (best need gs)) ≡ gaps_up s (cond t (smaller g (best need gs)) (best need gs))
      go true = refl
      go false = refl
