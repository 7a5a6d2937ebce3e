-- Request S-6: the gaps of a heap, and the choice among them. Which segments are free is for a layout or a list of blocks to say.
-- Assumes nothing.
use Rattle.std.specs.Prelude.{◌≡◌, ◌⊎◌, Bool, cond, List, [], ◌∷◌, ◌++◌, ℕ, zero, suc, ◌+◌, ◌*◌, ◌-◌, ◌<◌, leb}
use Rattle.std.proofs.Math.Option.{Option, none, some}
use Rattle.number.specs.Parts.{Each}
pub use Rattle.types.specs.Gap.{Gap}

-- a heap of segments of G bytes from `from` on; segment i is free where `free` says so
module _ (G from : ℕ) (free : ℕ → Bool) where
  -- the r free segments right before segment i are a gap, unless there are none
  abbrev pub ended : (i r : ℕ) → List Gap
  ended i zero = []
  ended i (suc r) = record { start = from + (i - suc r) * G; bytes = suc r * G } ∷ []

  -- n segments are left, from i on; r free ones stand right before i
  unfoldable pub gaps_after : (n i r : ℕ) → List Gap
  gaps_after zero i r = ended i r
  gaps_after (suc n) i r = cond (free i) (gaps_after n (suc i) (suc r)) (ended i r ++ gaps_after n (suc i) 0)

  -- the gaps of a heap of n segments, in address order
  abbrev pub gaps_of : (n : ℕ) → List Gap
  gaps_of n = gaps_after n 0 0

-- the smaller of two gaps, the first where they are equal
abbrev pub smaller : Gap → Option Gap → Option Gap
smaller g none = some g
smaller g (some h) = cond (leb g.bytes h.bytes) (some g) (some h)

-- the smallest gap that holds `need` bytes, the first among equals; none where none holds them
unfoldable pub best : (need : ℕ) → List Gap → Option Gap
best need [] = none
best need (g ∷ gs) = cond (leb need g.bytes) (smaller g (best need gs)) (best need gs)

-- g is one of the gaps
abbrev pub Among : Gap → List Gap → Type 0
Among g [] = ⊥
Among g (h ∷ hs) = (g ≡ h) ⊎ Among g hs

-- in address order: each ends before any later one begins
abbrev pub Ascending : List Gap → Type 0
Ascending [] = Unit {0}
Ascending (g ∷ gs) = Each (λ (h : Gap). g.start + g.bytes < h.start) gs × Ascending gs
