-- The gap that is chosen: it fits, none that fits is smaller, and none of the same size is lower. Assumes nothing.
use mathlib.Core.Path.{◌≡◌, refl, sym, ap, subst}
use mathlib.Core.Bool.{false, cond}
use mathlib.Core.Logic.{◌⊎◌, inl, inr, ⊎_elim}
use mathlib.Core.List.{List, [], ◌∷◌}
use mathlib.Core.Option.{Option, none, some}
use Prim.Native.Nat.{ℕ, zero, suc, ◌+◌, ◌≤◌, ◌<◌}
use native.Mathlib.Omega.{arith}
use lib.ListN.{length, take}
use lib.Dec.{leb}
use borrow.Author.Tests.{leb-true, leb-false}
use Rattle.number.specs.Parts.{Each}
use Rattle.number.proofs.TestLaws.{Test, is_true, is_false, test}
use Rattle.plain.specs.Gaps.{Gap, smaller, best, Among, Ascending}

-- ---- lists of gaps

pub each-among : (P : Gap → Type 0) (gs : List Gap) (g : Gap) → Each P gs → Among g gs → P g
each-among P (h ∷ hs) g e (inl q) = subst P (sym q) e.0
each-among P [] g e x'' = elim x'' [ ]
each-among P (h ∷ hs) g e (inr a) = each-among P hs g e.1 a

-- what is looked at with a smaller budget is with a larger one
pub take_more : (k k' : ℕ) (gs : List Gap) (g : Gap) → k ≤ k' → Among g (take k gs) → Among g (take k' gs)
take_more (suc k) zero gs g h a = absurd (omega arith)
take_more zero _ gs g h a = elim a [ ]
take_more (suc k) (suc k') [] g h a = elim a [ ]
take_more (suc k) (suc k') (x ∷ xs) g h (inl q) = inl q
take_more (suc k) (suc k') (x ∷ xs) g h (inr a) = inr (take_more k k' xs g (omega arith) a)

pub take-among : (k : ℕ) (gs : List Gap) (g : Gap) → Among g (take k gs) → Among g gs
take-among (suc k) (x ∷ xs) g (inl q) = inl q
take-among zero gs g x' = elim x' [ ]
take-among (suc k) [] g x3 = elim x3 [ ]
take-among (suc k) (x ∷ xs) g (inr a) = inr (take-among k xs g a)

pub take_whole : (gs : List Gap) → take (length gs) gs ≡ gs
take_whole [] = refl
take_whole (x ∷ xs) = rw (take_whole xs)

pub take-each : (P : Gap → Type 0) (k : ℕ) (gs : List Gap) → Each P gs → Each P (take k gs)
take-each P zero gs e = tt
take-each P (suc k) [] e = tt
take-each P (suc k) (x ∷ xs) e = (e.0, take-each P k xs e.1)

pub take-ascending : (k : ℕ) (gs : List Gap) → Ascending gs → Ascending (take k gs)
take-ascending zero gs e = tt
take-ascending (suc k) [] e = tt
take-ascending (suc k) (x ∷ xs) e = (take-each (λ (h : Gap). x.start + x.bytes < h.start) k xs e.0, take-ascending k xs e.1)

-- ---- the choice

pub record Chosen (need : ℕ) (gs : List Gap) (g : Gap) : Type 0 where
  pub among : Among g gs
  pub fits : need ≤ g.bytes
  pub least : (h : Gap) → Among h gs → need ≤ h.bytes → g.bytes ≤ h.bytes
  pub lowest : Ascending gs → (h : Gap) → Among h gs → need ≤ h.bytes → g.bytes ≡ h.bytes → g.start ≤ h.start

abbrev pub BestOf : (need : ℕ) → List Gap → Option Gap → Type 0
BestOf need gs none = (h : Gap) → Among h gs → need ≤ h.bytes → ⊥
BestOf need gs (some g) = Chosen need gs g

module _ (need : ℕ) where
  module _ (x : Gap) (xs : List Gap) where
    -- the first does not fit
    module _ (f : leb need x.bytes ≡ false) where
      small : (h : Gap) → h ≡ x → need ≤ h.bytes → ⊥
      small h q n = let l = leb-false need x.bytes f in let e : h.bytes ≡ x.bytes = ap (λ (g : Gap). g.bytes) q in omega arith

    skip : leb need x.bytes ≡ false → (o : Option Gap) → BestOf need xs o → BestOf need (x ∷ xs) o
    skip f none t = λ h a n. ⊎_elim (λ q. small f h q n) (λ u. t h u n) a
    skip f (some g) t =
        record {
          among = inr t.among;
          fits = t.fits;
          least = λ h a n. least h a n;
          lowest = λ s h a n e. lowest s h a n e;
        }
      where
        least : (h : Gap) → Among h (x ∷ xs) → need ≤ h.bytes → g.bytes ≤ h.bytes
        least h (inl q) n = absurd (small f h q n)
        least h (inr a) n = t.least h a n

        lowest : Ascending (x ∷ xs) → (h : Gap) → Among h (x ∷ xs) → need ≤ h.bytes → g.bytes ≡ h.bytes → g.start ≤ h.start
        lowest s h (inl q) n e = absurd (small f h q n)
        lowest s h (inr a) n e = t.lowest s.1 h a n e

    -- the first fits, and is chosen: what is chosen of the others, if one is, is no smaller
    take-it : need ≤ x.bytes → ((h : Gap) → Among h xs → need ≤ h.bytes → x.bytes ≤ h.bytes) → Chosen need (x ∷ xs) x
    take-it f t = record { among = inl refl; fits = f; least = least; lowest = lowest }
      where
        least : (h : Gap) → Among h (x ∷ xs) → need ≤ h.bytes → x.bytes ≤ h.bytes
        least h (inl q) n = let e : h.bytes ≡ x.bytes = ap (λ (g : Gap). g.bytes) q in omega arith
        least h (inr a) n = t h a n

        lowest : Ascending (x ∷ xs) → (h : Gap) → Among h (x ∷ xs) → need ≤ h.bytes → x.bytes ≡ h.bytes → x.start ≤ h.start
        lowest s h (inl q) n e = let u : h.start ≡ x.start = ap (λ (g : Gap). g.start) q in omega arith
        lowest s h (inr a) n e = let u = each-among (λ (y : Gap). x.start + x.bytes < y.start) xs h s.0 a in omega arith

    -- it fits, and one of the others is smaller
    keep : (g : Gap) → g.bytes < x.bytes → Chosen need xs g → Chosen need (x ∷ xs) g
    keep g l t = record { among = inr t.among; fits = t.fits; least = least; lowest = lowest }
      where
        least : (h : Gap) → Among h (x ∷ xs) → need ≤ h.bytes → g.bytes ≤ h.bytes
        least h (inl q) n = let e : h.bytes ≡ x.bytes = ap (λ (g : Gap). g.bytes) q in omega arith
        least h (inr a) n = t.least h a n

        lowest : Ascending (x ∷ xs) → (h : Gap) → Among h (x ∷ xs) → need ≤ h.bytes → g.bytes ≡ h.bytes → g.start ≤ h.start
        lowest s h (inl q) n e = absurd (let u : h.bytes ≡ x.bytes = ap (λ (g : Gap). g.bytes) q in omega arith)
        lowest s h (inr a) n e = t.lowest s.1 h a n e

    fitting : need ≤ x.bytes → (o : Option Gap) → BestOf need xs o → BestOf need (x ∷ xs) (smaller x o)
    fitting f none t = take-it f (λ h a n. absurd (t h a n))
    fitting f (some g) t = go (test (leb x.bytes g.bytes))
      where
        go : Test (leb x.bytes g.bytes) → BestOf need (x ∷ xs) (cond (leb x.bytes g.bytes) (some x) (some g))
        go (is_true e) = rw e (take-it f (λ h a n. let u = t.least h a n in let v = leb-true x.bytes g.bytes e in omega arith))
        go (is_false e) = rw e (keep g (leb-false x.bytes g.bytes e) t)

  pub best_of : (gs : List Gap) → BestOf need gs (best need gs)
  unfolding best
  best_of [] = λ h a n. a
  best_of (x ∷ xs) = go (test (leb need x.bytes)) (best need xs) (best_of xs)
    where
      go : Test (leb need x.bytes) → (o : Option Gap) → BestOf need xs o → BestOf need (x ∷ xs) (cond (leb need x.bytes) (smaller x o) o)
      go (is_true e) o t = rw e (fitting x xs (leb-true need x.bytes e) o t)
      go (is_false e) o t = rw e (skip x xs e o t)

  pub best-some : (gs : List Gap) (g : Gap) → best need gs ≡ some g → Chosen need gs g
  best-some gs g e = subst (BestOf need gs) e (best_of gs)

  pub best_none : (gs : List Gap) → best need gs ≡ none → (h : Gap) → Among h gs → need ≤ h.bytes → ⊥
  best_none gs e = subst (BestOf need gs) e (best_of gs)
