-- Laws of tests, and of a range as a test. Assumes nothing.
use mathlib.Core.Path.{◌≡◌, refl, sym, ap, ◌∙◌}
use mathlib.Core.Bool.{Bool, true, false, cond, ◌&&◌, ◌||◌, true≢false, false≢true}
use Prim.Native.Nat.{ℕ, ◌+◌, ◌*◌, ◌/◌, ◌%◌, ◌≤◌, ◌<◌}
use native.Mathlib.Omega.{arith}
use lib.Arith.{digits_div, digits_mod}
use lib.Dec.{leb, ltb, eqb}
use borrow.Author.Tests.{lt-ltb, le-ltb, le-leb, lt-leb, eq-eqb, ltb-true, ltb-false, leb-true, eqb-true}

-- a test passes or fails
pub data Test (b : Bool) : Type 0 where
  is_true : b ≡ true → Test b
  is_false : b ≡ false → Test b

pub test : (b : Bool) → Test b
test true = is_true refl
test false = is_false refl

pub and-true : (a b : Bool) → (a && b) ≡ true → (a ≡ true) × (b ≡ true)
and-true true b e = (refl, e)
and-true false b e = absurd (false≢true e)

pub and_false_r : (a b : Bool) → b ≡ false → (a && b) ≡ false
and_false_r true b e = e
and_false_r false b e = refl

pub or-false : (a b : Bool) → (a || b) ≡ false → (a ≡ false) × (b ≡ false)
or-false true b e = absurd (true≢false e)
or-false false b e = (refl, e)

pub or_case : (a b : Bool) → (a || b) ≡ true → (a ≡ true → ⊥) → (b ≡ true → ⊥) → ⊥
or_case true b e f g = f refl
or_case false b e f g = g e

-- two tests are one where each passes if the other does
pub same_test : (s t : Bool) → (s ≡ true → t ≡ true) → (t ≡ true → s ≡ true) → s ≡ t
same_test true t f g = sym (f refl)
same_test false true f g = g refl
same_test false false f g = refl

pub not-both : (b : Bool) → b ≡ true → b ≡ false → ⊥
not-both b p q = true≢false (sym p ∙ q)

pub false_of : (b : Bool) → (b ≡ true → ⊥) → b ≡ false
false_of true h = absurd (h refl)
false_of false h = refl

pub eqb_same : (a b c d : ℕ) → (a ≡ b → c ≡ d) → (c ≡ d → a ≡ b) → eqb a b ≡ eqb c d
eqb_same a b c d f g =
    same_test (eqb a b) (eqb c d) (λ e. eq-eqb c d (f (eqb-true a b e))) (λ e. eq-eqb a b (g (eqb-true c d e)))

-- two numbers are one exactly if their last digits are, and their rests
pub same_digits : (m a b r s : ℕ) → a < m → b < m → eqb (a + m * r) (b + m * s) ≡ (eqb a b && eqb r s)
same_digits m a b r s h k =
    same_test (eqb (a + m * r) (b + m * s)) (eqb a b && eqb r s)
    (λ e.
    let x : r * m + a ≡ s * m + b = omega (arith, eqb-true (a + m * r) (b + m * s) e) in
    let d : a ≡ b = sym (digits_mod r h) ∙ ap (λ (y : ℕ). y % m) x ∙ digits_mod s k in
    let q : r ≡ s = sym (digits_div r h) ∙ ap (λ (y : ℕ). y / m) x ∙ digits_div s k in
    rw (eq-eqb a b d, eq-eqb r s q))
    (λ e. let t = and-true (eqb a b) (eqb r s) e in eq-eqb (a + m * r) (b + m * s) (rw (eqb-true a b t.0, eqb-true r s t.1)))

pub cond-true : {A : Type 0} (c : Bool) (x y : A) → c ≡ true → cond c x y ≡ x
cond-true c x y e = rw e

-- what holds of both holds of either
pub cond_both : {A : Type 0} (P : A → Type 0) (c : Bool) (x y : A) → P x → P y → P (cond c x y)
cond_both P true x y h k = h
cond_both P false x y h k = k

-- ---- lo ≤ p < hi, as a test

pub in-true : (lo hi p : ℕ) → lo ≤ p → p < hi → (leb lo p && ltb p hi) ≡ true
in-true lo hi p a b = rw (le-leb lo p a, lt-ltb p hi b)

pub in-below : (lo hi p : ℕ) → p < lo → (leb lo p && ltb p hi) ≡ false
in-below lo hi p a = rw (lt-leb lo p a)

pub in-above : (lo hi p : ℕ) → hi ≤ p → (leb lo p && ltb p hi) ≡ false
in-above lo hi p a = and_false_r (leb lo p) (ltb p hi) (le-ltb p hi a)

pub in-facts : (lo hi p : ℕ) → (leb lo p && ltb p hi) ≡ true → (lo ≤ p) × (p < hi)
in-facts lo hi p e = let t = and-true (leb lo p) (ltb p hi) e in (leb-true lo p t.0, ltb-true p hi t.1)

-- where p lies
pub data Where (lo hi p : ℕ) : Type 0 where
  below : p < lo → Where lo hi p
  inside : lo ≤ p → p < hi → Where lo hi p
  above : hi ≤ p → lo ≤ p → Where lo hi p

pub locate : (lo hi p : ℕ) → Where lo hi p
locate lo hi p = go (ltb p lo) refl (ltb p hi) refl
  where
    go : (a : Bool) → ltb p lo ≡ a → (b : Bool) → ltb p hi ≡ b → Where lo hi p
    go true e b f = below (ltb-true p lo e)
    go false e true f = inside (ltb-false p lo e) (ltb-true p hi f)
    go false e false f = above (ltb-false p hi f) (ltb-false p lo e)
