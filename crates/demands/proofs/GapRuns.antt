-- Runs of places that pass a test, and the gaps of a heap whose free segments they are: where they begin, how many there are, how long each is.
-- Assumes nothing.
use mathlib.Core.Path.{◌≡◌, refl, sym, ◌∙◌}
use mathlib.Core.Bool.{Bool, true, false, cond, not, ◌&&◌}
use Prim.Native.Nat.{ℕ, zero, suc, ◌+◌, ◌-◌, ◌≤◌, ◌<◌}
use native.Mathlib.Omega.{arith}
use Rattle.number.specs.Parts.{run_of}
use Rattle.number.proofs.TestLaws.{Test, is_true, is_false, test, and-true}
use Rattle.number.proofs.RunLaws.{run-le, run-at, run-all, run_on}
use Rattle.demands.specs.Gaps.{begins_run}

-- the n places from i on are a longest run among the first N
pub record Longest (f : ℕ → Bool) (N i n : ℕ) : Type 0 where
  pub some : 1 ≤ n
  pub inside : i + n ≤ N
  pub all : (j : ℕ) → i ≤ j → j < i + n → f j ≡ true
  pub before : (j : ℕ) → suc j ≡ i → f j ≡ false
  pub after : i + n < N → f (i + n) ≡ false

module _ (f : ℕ → Bool) where
  -- ---- where a run begins

  pub begins-first : (i : ℕ) → begins_run f i ≡ true → f i ≡ true
  begins-first zero e = e
  begins-first (suc i) e = (and-true (f (suc i)) (not (f i)) e).0

  pub begins-before : (i j : ℕ) → begins_run f i ≡ true → suc j ≡ i → f j ≡ false
  begins-before zero j e s = absurd (omega arith)
  begins-before (suc i) j e s =
      let q : j ≡ i = omega arith in
      rw q (go (f i) (and-true (f (suc i)) (not (f i)) e).1)
    where
      go : (t : Bool) → not t ≡ true → t ≡ false
      go true e = sym e
      go false e = refl

  begins-there : (i : ℕ) → f i ≡ true → ((j : ℕ) → suc j ≡ i → f j ≡ false) → begins_run f i ≡ true
  begins-there zero e h = e
  begins-there (suc i) e h = rw (e, h i refl)

  -- behind a place that passes no run begins; behind one that does not, one begins where the next passes
  pub goes_on : (i : ℕ) → f i ≡ true → begins_run f (suc i) ≡ false
  goes_on i e = rw e (go (f (suc i)))
    where
      go : (t : Bool) → (t && false) ≡ false
      go true = refl
      go false = refl

  pub begins-anew : (i : ℕ) → f i ≡ false → begins_run f (suc i) ≡ f (suc i)
  begins-anew i e = rw e (go (f (suc i)))
    where
      go : (t : Bool) → (t && true) ≡ t
      go true = refl
      go false = refl

  -- ---- how long it is

  run-exact : (i n x : ℕ) → ((j : ℕ) → i ≤ j → j < i + n → f j ≡ true) → (1 ≤ x → f (i + n) ≡ false) → run_of f i (n + x) ≡ n
  unfolding run_of
  run-exact i n zero h e = run_on f i n 0 (run-all f i n (λ j k. h (i + j) (omega arith) (omega arith))) ∙ omega arith
  run-exact i n (suc x) h e =
      run_on f i n (suc x) (run-all f i n (λ j k. h (i + j) (omega arith) (omega arith))) ∙ rw (e (omega arith)) (omega arith)

  run_end : (i n : ℕ) → run_of f i n < n → f (i + run_of f i n) ≡ false
  unfolding run_of
  run_end i zero l = absurd (omega arith)
  run_end i (suc n) l = go (test (f i)) l (run_end (suc i) n)
    where
      go : Test (f i) → cond (f i) (suc (run_of f (suc i) n)) 0 < suc n → (run_of f (suc i) n < n → f (suc i + run_of f (suc i) n) ≡ false)
          → f (i + cond (f i) (suc (run_of f (suc i) n)) 0) ≡ false
      go (is_true e) l ih =
          let k : suc (run_of f (suc i) n) < suc n = rw e at l in
          let p : i + suc (run_of f (suc i) n) ≡ suc i + run_of f (suc i) n = omega arith in
          rw (e, p) (ih (omega arith))
      go (is_false e) l ih = let p : i + 0 ≡ i = omega arith in rw (e, p) e

  run-one : (i n : ℕ) → f i ≡ true → 1 ≤ n → 1 ≤ run_of f i n
  unfolding run_of
  run-one i zero e h = absurd (omega arith)
  run-one i (suc n) e h = rw e (omega arith)

  module _ (N : ℕ) where
    pub longest-begins : (i n : ℕ) → Longest f N i n → (begins_run f i ≡ true) × (run_of f i (N - i) ≡ n) × (i < N)
    longest-begins i n R =
        let e : N - i ≡ n + (N - i - n) = omega (arith, R.inside) in (
          begins-there i (R.all i (omega arith) (omega (arith, R.some))) R.before,
          rw e (run-exact i n (N - i - n) R.all (λ x. R.after (omega (arith, R.inside)))),
          omega (arith, R.some, R.inside),
        )

    pub begins-longest : (i : ℕ) → begins_run f i ≡ true → i < N → Longest f N i (run_of f i (N - i))
    begins-longest i b l =
        record {
          some = run-one i (N - i) (begins-first i b) (omega arith);
          inside = omega (arith, run-le f i (N - i));
          all = λ j x y. let e : i + (j - i) ≡ j = omega arith in (rw e at (run-at f i (N - i) (j - i) (omega arith)));
          before = λ j e. begins-before i j b e;
          after = λ x. run_end i (N - i) (omega arith);
        }
