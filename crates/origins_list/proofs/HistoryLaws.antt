-- Origins name allocations as places in the history do: what blocks, origins and referents are is what the history tells. Assumes nothing.
use mathlib.Core.Path.{◌≡◌, refl, sym, ap, ◌∙◌}
use mathlib.Core.Logic.{◌≢◌}
use mathlib.Core.Bool.{Bool, true, false, cond, not, ◌&&◌}
use mathlib.Core.List.{List, [], ◌∷◌}
use mathlib.Core.Option.{Option, none, some}
use Prim.Native.Nat.{ℕ, suc, ◌+◌, ◌%◌, ◌≤◌, ◌<◌}
use native.Mathlib.Omega.{arith}
use lib.ListN.{length}
use lib.Dec.{eqb}
use borrow.Author.Tests.{eq-eqb, ne_eqb, eqb-true, eqb-false}
use Rattle.number.proofs.TestLaws.{Test, is_true, is_false, test, not-both, false_of, eqb_same}
use Rattle.origins_list.specs.Call.{Call, takes_origin}
use Rattle.origins_list.specs.Cells.{Held, empty}
use Rattle.origins_list.specs.History.{History, Allocation, recordings, holder, set_to}
use Rattle.origins_list.proofs.SpotLaws.{Spot, vacant, taken}

-- ---- the names of allocations

-- an accepted recording
abbrev pub records : Call × Bool → Bool
records e = takes_origin e.0 && e.1

-- at this place one was made
unfoldable pub is_made : History → ℕ → Bool
is_made [] p = false
is_made (e ∷ h) p = cond (eqb p (length h)) (records e) (is_made h p)

-- the origin that the recording at a place took, where k was the first
unfoldable pub named : (k : ℕ) → History → ℕ → ℕ
named k [] p = 0
named k (e ∷ h) p = cond (eqb p (length h)) (k + recordings h) (named k h p)

-- recordings are counted, never forgotten
more : (e : Call × Bool) (h : History) → recordings h ≤ recordings (e ∷ h)
unfolding recordings
more e h = go (records e)
  where
    go : (t : Bool) → recordings h ≤ cond t (suc (recordings h)) (recordings h)
    go true = omega arith
    go false = omega arith

made-before : (h : History) (p : ℕ) → is_made h p ≡ true → p < length h
unfolding is_made
made-before [] p e = absurd (not-both true refl (sym e))
made-before (e ∷ h) p t = go (test (eqb p (length h))) (made-before h p)
  where
    go : Test (eqb p (length h)) → (is_made h p ≡ true → p < length h) → p < suc (length h)
    go (is_true q) ih = omega (arith, eqb-true p (length h) q)
    go (is_false q) ih = omega (arith, ih (rw q at t))

-- what was made stays made, under its name
pub made-still : (k : ℕ) (e : Call × Bool) (h : History) (p : ℕ) → is_made h p ≡ true → (is_made (e ∷ h) p ≡ true) × (named k (e ∷ h) p ≡ named k h p)
unfolding is_made named
made-still k e h p t = let n : eqb p (length h) ≡ false = ne_eqb p (length h) (λ q. omega (arith, made-before h p t, q)) in rw n (t, refl)

-- what is made now has the next name
pub made-now : (k : ℕ) (e : Call × Bool) (h : History) → records e ≡ true
    → (is_made (e ∷ h) (length h) ≡ true) × (named k (e ∷ h) (length h) ≡ k + recordings h) × (recordings (e ∷ h) ≡ suc (recordings h))
unfolding is_made named recordings
made-now k e h t = rw (eq-eqb (length h) (length h) refl, t) (refl, refl, refl)

-- a name is from the first on, below the next
pub named-range : (k : ℕ) (h : History) (p : ℕ) → is_made h p ≡ true → (k ≤ named k h p) × (named k h p < k + recordings h)
unfolding is_made named
named-range k [] p t = absurd (not-both true refl (sym t))
named-range k (e ∷ h) p t = go (test (eqb p (length h))) (named-range k h p)
  where
    go : Test (eqb p (length h)) → (is_made h p ≡ true → (k ≤ named k h p) × (named k h p < k + recordings h))
        → (k ≤ cond (eqb p (length h)) (k + recordings h) (named k h p)) × (cond (eqb p (length h)) (k + recordings h) (named k h p) < k + recordings (e ∷ h))
    go (is_true q) ih = rw q (omega arith, omega (arith, (made-now k e h (rw q at t)).2))
    go (is_false q) ih = let r = ih (rw q at t) in rw q (r.0, omega (arith, r.1, more e h))

-- two allocations have two names
pub named-own : (k : ℕ) (h : History) (p q : ℕ) → is_made h p ≡ true → is_made h q ≡ true → named k h p ≡ named k h q → p ≡ q
unfolding is_made named
named-own k [] p q t u e = absurd (not-both true refl (sym t))
named-own k (x ∷ h) p q t u e = go (test (eqb p (length h))) (test (eqb q (length h))) (named-own k h p q)
  where
    go : Test (eqb p (length h)) → Test (eqb q (length h)) → (is_made h p ≡ true → is_made h q ≡ true → named k h p ≡ named k h q → p ≡ q) → p ≡ q
    go (is_true a) (is_true b) ih = eqb-true p (length h) a ∙ sym (eqb-true q (length h) b)
    go (is_true a) (is_false b) ih =
        let z : k + recordings h ≡ named k h q = rw (a, b) at e in absurd (omega (arith, z, named-range k h q (rw b at u)))
    go (is_false a) (is_true b) ih =
        let z : named k h p ≡ k + recordings h = rw (a, b) at e in absurd (omega (arith, z, named-range k h p (rw a at t)))
    go (is_false a) (is_false b) ih = ih (rw a at t) (rw b at u) (rw (a, b) at e)

-- what was made, where there is something
abbrev pub Made : History → Option ℕ → Type 0
Made h none = Unit {0}
Made h (some p) = is_made h p ≡ true

-- ---- what the history tells, of a run whose first origin is k

module _ (k : ℕ) where
  -- the allocation there and the block there are one: base and name
  pub data Matches (h : History) (f : Held) : Option Allocation → Spot → Type 0 where
    neither : Matches h f none vacant
    both : (n : Allocation) (l : ℕ) → is_made h n.place ≡ true → f n.base ≡ named k h n.place → Matches h f (some n) (taken n.base l)

  -- what a pointer is set to, by its name
  abbrev pub referred : History → Option ℕ → ℕ
  referred h none = 0
  referred h (some p) = named k h p

  pub record Tells (h : History) (s : ℕ → Spot) (f g : Held) (next : ℕ) : Type 0 where
    pub stands : (a : ℕ) → Matches h f (holder h a) (s a)
    pub set : (c : ℕ) → g c ≡ referred h (set_to h c)
    pub made : (c : ℕ) → Made h (set_to h c)
    pub count : next ≡ k + recordings h

  pub tells_first : Tells [] (λ a. vacant) empty empty k
  unfolding holder set_to recordings
  tells_first = record { stands = λ a. neither; set = λ c. refl; made = λ c. tt; count = omega arith }
