-- A scan of gaps, gap by gap. Assumes nothing.
use mathlib.Core.Path.{◌≡◌, refl}
use mathlib.Core.Bool.{Bool, true, false, cond}
use mathlib.Core.List.{List, [], ◌∷◌}
use mathlib.Core.Option.{Option, none, some}
use Prim.Native.Nat.{ℕ, zero, suc, ◌+◌, ◌-◌, ◌≤◌, ◌<◌}
use native.Mathlib.Omega.{arith}
use native.Mathlib.Nat.{add-zero, zero-add, sub-zero}
use lib.ListN.{length, take}
use lib.Dec.{leb}
use borrow.Author.Tests.{le-leb, lt-leb, leb-true, leb-false}
use Rattle.number.proofs.TestLaws.{Test, is_true, is_false, test}
use Rattle.plain.specs.Gaps.{Gap, smaller, best}
use Rattle.heap_laws.specs.Scan.{prefer, scanned}

prefer-none : (c : Option Gap) → prefer c none ≡ c
prefer-none none = refl
prefer-none (some g) = refl

-- which of three gaps is chosen does not depend on which two are compared first
prefer-next : (d g : Gap) (o : Option Gap) → smaller d (smaller g o) ≡ prefer (smaller d (some g)) o
prefer-next d g none = go (leb d.bytes g.bytes)
  where
    go : (t : Bool) → cond t (some d) (some g) ≡ prefer (cond t (some d) (some g)) none
    go true = refl
    go false = refl
prefer-next d g (some h) = go (test (leb d.bytes g.bytes)) (test (leb g.bytes h.bytes))
  where
    go : Test (leb d.bytes g.bytes) → Test (leb g.bytes h.bytes) → smaller d (smaller g (some h)) ≡ prefer (smaller d (some g)) (some h)
    go (is_true a) (is_true b) =
        let x = leb-true d.bytes g.bytes a in
        let y = leb-true g.bytes h.bytes b in
        rw (b, a, le-leb d.bytes h.bytes (omega arith))
    go (is_true a) (is_false b) = rw (b, a)
    go (is_false a) (is_true b) = rw (b, a, b)
    go (is_false a) (is_false b) =
        let x = leb-false d.bytes g.bytes a in
        let y = leb-false g.bytes h.bytes b in
        rw (b, a, b, lt-leb d.bytes h.bytes (omega arith))

module _ (need : ℕ) where
  prefer-best : (c : Option Gap) (g : Gap) (gs : List Gap) → prefer c (best need (g ∷ gs)) ≡ prefer (prefer c (best need (g ∷ []))) (best need gs)
  unfolding best
  prefer-best c g gs = go c (leb need g.bytes) (best need gs)
    where
      go : (c : Option Gap) (t : Bool) (o : Option Gap) → prefer c (cond t (smaller g o) o) ≡ prefer (prefer c (cond t (some g) none)) o
      go none true o = refl
      go none false o = refl
      go (some d) true o = prefer-next d g o
      go (some d) false o = refl

  module _ (k : ℕ) where
    pub scan-start : (gs : List Gap) → scanned need k 0 none gs ≡ (length (take k gs), best need (take k gs))
    unfolding scanned
    scan-start gs = rw (sub-zero k, zero-add (length (take k gs)))

    -- one more is looked at
    pub scan-gap : (looked : ℕ) (c : Option Gap) (g : Gap) (gs : List Gap) → looked < k
        → scanned need k looked c (g ∷ gs) ≡ scanned need k (looked + 1) (prefer c (best need (g ∷ []))) gs
    unfolding scanned
    scan-gap looked c g gs h =
        let e : k - looked ≡ suc (k - (looked + 1)) = omega arith in
        let l : looked + suc (length (take (k - (looked + 1)) gs)) ≡ looked + 1 + length (take (k - (looked + 1)) gs) = omega arith in
        rw (e, l, prefer-best c g (take (k - (looked + 1)) gs))

    -- no more are looked at, or none are left
    pub scan-full : (looked : ℕ) (c : Option Gap) (gs : List Gap) → k ≤ looked → scanned need k looked c gs ≡ (looked, c)
    unfolding scanned best
    scan-full looked c gs h =
        let e : k - looked ≡ 0 = omega arith in
        rw (e, add-zero looked, prefer-none c)

    pub scan-none : (looked : ℕ) (c : Option Gap) → scanned need k looked c [] ≡ (looked, c)
    unfolding scanned best
    scan-none looked c = go (k - looked)
      where
        go : (n : ℕ) → ◌≡◌ {A = ℕ × Option Gap} (looked + length {A = Gap} (take n []), prefer c (best need (take n []))) (looked, c)
        go zero = rw (add-zero looked, prefer-none c)
        go (suc n) = rw (add-zero looked, prefer-none c)
