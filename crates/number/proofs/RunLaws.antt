-- Laws of a run of places that pass a test, and of the zero bytes below the lowest bit that is set. Assumes nothing.
use mathlib.Core.Path.{◌≡◌, refl, sym, ap, ◌∙◌}
use mathlib.Core.Bool.{Bool, true, false, cond}
use Prim.Native.Nat.{ℕ, zero, suc, ◌+◌, ◌-◌, ◌*◌, ◌/◌, ◌%◌, ◌^◌, ◌≤◌, ◌<◌, suc-le-suc}
use native.Mathlib.Omega.{arith}
use native.Mathlib.Numerals.{add-one}
use native.Mathlib.Nat.{add-zero, zero-add, add-suc, suc-add, div-one}
use lib.Count as count
use lib.Dec.{leb, eqb}
use lib.Pow.{mod-pow-add, shr-shr}
use borrow.Author.Tests.{eqb-true, eqb-false, leb-true, leb-false}
use Rattle.number.specs.Little.{byte_of}
use Rattle.number.specs.Parts.{run_of}
use Rattle.number.proofs.TestLaws.{Test, is_true, is_false, test}

pub run-le : (t : ℕ → Bool) (q n : ℕ) → run_of t q n ≤ n
unfolding run_of
run-le t q zero = omega arith
run-le t q (suc n) = go (t q) (run-le t (suc q) n)
  where
    go : (b : Bool) {r : ℕ} → r ≤ n → cond b (suc r) 0 ≤ suc n
    go true h = suc-le-suc h
    go false h = omega arith

-- each place of it passes
pub run-at : (t : ℕ → Bool) (q n i : ℕ) → i < run_of t q n → t (q + i) ≡ true
unfolding run_of
run-at t q zero i h = absurd (omega arith)
run-at t q (suc n) i h = go (test (t q)) i h (run-at t (suc q) n)
  where
    go : Test (t q) → (i : ℕ) → i < cond (t q) (suc (run_of t (suc q) n)) 0 → ((j : ℕ) → j < run_of t (suc q) n → t (suc q + j) ≡ true) → t (q + i) ≡ true
    go (is_true e) zero h ih = rw (add-zero q) e
    go (is_true e) (suc i) h ih = let k : suc i < suc (run_of t (suc q) n) = rw e at h in rw (add-suc q i, ← suc-add q i) (ih i (omega arith))
    go (is_false e) i h ih = let k : i < 0 = rw e at h in absurd (omega arith)

pub run-same : (t u : ℕ → Bool) (a b n : ℕ) → ((i : ℕ) → i < n → t (a + i) ≡ u (b + i)) → run_of t a n ≡ run_of u b n
unfolding run_of
run-same t u a b zero h = refl
run-same t u a b (suc n) h =
    let h0 : t a ≡ u b = rw (add-zero a, add-zero b) at (h 0 (omega arith)) in
    rw (h0, run-same t u (suc a) (suc b) n (λ i k. rw (suc-add a i, suc-add b i, ← add-suc a i, ← add-suc b i) (h (suc i) (suc-le-suc k))))

pub run-all : (t : ℕ → Bool) (q n : ℕ) → ((i : ℕ) → i < n → t (q + i) ≡ true) → run_of t q n ≡ n
unfolding run_of
run-all t q zero h = refl
run-all t q (suc n) h =
    let h0 : t q ≡ true = rw (add-zero q) at (h 0 (omega arith)) in
    rw (h0, run-all t (suc q) n (λ i k. rw (suc-add q i, ← add-suc q i) (h (suc i) (suc-le-suc k))))

-- whether all n places pass
pub run-full : (t : ℕ → Bool) (q n : ℕ) (b : Bool) → b ≡ eqb (run_of t q n) n → b ≡ true → run_of t q n ≡ n
run-full t q n b e h = eqb-true (run_of t q n) n (sym e ∙ h)

pub run-broken : (t : ℕ → Bool) (q n : ℕ) (b : Bool) → b ≡ eqb (run_of t q n) n → b ≡ false → run_of t q n < n
run-broken t q n b e h = let d = eqb-false (run_of t q n) n (sym e ∙ h) in omega (arith, run-le t q n)

-- all m places pass: the run goes on behind them
pub run_on : (t : ℕ → Bool) (q m n : ℕ) → run_of t q m ≡ m → run_of t q (m + n) ≡ m + run_of t (q + m) n
unfolding run_of
run_on t q zero n e = rw (zero-add n, add-zero q) (omega arith)
run_on t q (suc m) n e = rw (suc-add m n, add-suc q m, ← suc-add q m) (go (t q) (run_of t (suc q + m) n) e (run_on t (suc q) m n))
  where
    go : (b : Bool) (x : ℕ) {r s : ℕ} → cond b (suc r) 0 ≡ suc m → (r ≡ m → s ≡ m + x) → cond b (suc s) 0 ≡ suc m + x
    go true x e ih = omega (arith, ih (omega arith))
    go false x e ih = absurd (omega arith)

-- one of them does not: what stands behind is of no account
pub run-stops : (t : ℕ → Bool) (q m n : ℕ) → run_of t q m < m → run_of t q (m + n) ≡ run_of t q m
unfolding run_of
run-stops t q zero n h = absurd (omega arith)
run-stops t q (suc m) n h = rw (suc-add m n) (go (t q) h (run-stops t (suc q) m n))
  where
    go : (b : Bool) {r s : ℕ} → cond b (suc r) 0 < suc m → (r < m → s ≡ r) → cond b (suc s) 0 ≡ cond b (suc r) 0
    go true h ih = ap suc (ih (omega arith))
    go false h ih = refl

-- a run in whole eights, found eight places at a time
module _ (t : ℕ → Bool) (n e : ℕ) (h : n % 8 ≡ 0) (f : run_of t 0 n ≡ n) where
  behind : n ≤ e → run_of t 0 e ≡ n + run_of t n (e - n)
  behind l = let k : n + (e - n) ≡ e = omega arith in (rw (k, zero-add n) at (run_on t 0 n (e - n) f))

  pub eights-end : n ≤ e → e < n + 8 → n ≡ run_of t 0 e / 8 * 8
  eights-end l k = omega (arith, behind l, run-le t n (e - n))

  pub eights-stop : n + 8 ≤ e → run_of t n 8 < 8 → n ≡ run_of t 0 e / 8 * 8
  eights-stop l k =
      let m : e - n ≡ 8 + (e - (n + 8)) = omega arith in
      let s : run_of t n (e - n) ≡ run_of t n 8 = rw m (run-stops t n 8 (e - (n + 8)) k) in
      omega (arith, behind (omega arith))

-- ---- the zero bytes of a number, from the lowest on

-- as many zero bits as these, and those behind them
trailing-past : (j k n : ℕ) → n % 2 ^ j ≡ 0 → count.count_trailing_zeros (j + k) n ≡ j + count.count_trailing_zeros k (n / 2 ^ j)
unfolding count.count_trailing_zeros
trailing-past zero k n h = rw (zero-add k, div-one n) (omega arith)
trailing-past (suc j) k n h =
    let m : n % 2 ^ suc j ≡ n / 2 % 2 ^ j * 2 + n % 2 = ap (λ (x : ℕ). n % 2 ^ x) (sym (add-one j)) ∙ mod-pow-add n j 1 in
    let d : n / 2 / 2 ^ j ≡ n / 2 ^ suc j = shr-shr n 1 j ∙ ap (λ (x : ℕ). n / 2 ^ x) (omega arith) in
    let z : n % 2 ≡ 0 = omega arith in
    rw (suc-add j k, z, trailing-past j k (n / 2) (omega arith), d) (omega arith)

trailing-low : (k n j : ℕ) → j ≤ count.count_trailing_zeros k n → n % 2 ^ j ≡ 0
unfolding count.count_trailing_zeros
trailing-low k n zero h = omega arith
trailing-low zero n (suc j) h = absurd (omega arith)
trailing-low (suc k) n (suc j) h = go (n % 2) refl h (trailing-low k (n / 2) j)
  where
    go : (d : ℕ) → n % 2 ≡ d → suc j ≤ count.under d (count.count_trailing_zeros k (n / 2)) → (j ≤ count.count_trailing_zeros k (n / 2) → n / 2 % 2 ^ j ≡ 0) → n % 2 ^ suc j ≡ 0
    go zero e l ih = rw (← add-one j, mod-pow-add n j 1, e, ih (omega arith))
    go (suc d) e l ih = absurd (omega arith)

-- of w bytes, those below the lowest bit that is set
pub zero-bytes : (w x : ℕ) → count.count_trailing_zeros (8 * w) x / 8 ≡ run_of (λ i. eqb (byte_of x i) 0) 0 w
unfolding run_of byte_of count.count_trailing_zeros
zero-bytes zero x = omega arith
zero-bytes (suc w) x = go (test (eqb (x % 256) 0)) (test (leb 8 (count.count_trailing_zeros (8 * suc w) x))) (zero-bytes w (x / 256))
  where
    go : Test (eqb (x % 256) 0) → Test (leb 8 (count.count_trailing_zeros (8 * suc w) x))
        → count.count_trailing_zeros (8 * w) (x / 256) / 8 ≡ run_of (λ i. eqb (byte_of (x / 256) i) 0) 0 w
        → count.count_trailing_zeros (8 * suc w) x / 8 ≡ cond (eqb (x % 256) 0) (suc (run_of (λ i. eqb (byte_of x i) 0) 1 w)) 0
    go (is_true e) l ih =
        let s : run_of (λ i. eqb (byte_of (x / 256) i) 0) 0 w ≡ run_of (λ i. eqb (byte_of x i) 0) 1 w =
        run-same (λ i. eqb (byte_of (x / 256) i) 0) (λ i. eqb (byte_of x i) 0) 0 1 w (λ i h. rw (zero-add i, suc-add 0 i, zero-add i)) in
        let k : 8 * suc w ≡ 8 + 8 * w = omega arith in
        rw (e, k, trailing-past 8 (8 * w) x (eqb-true (x % 256) 0 e), ← s, ← ih) (omega arith)
    go (is_false e) (is_true l) ih = absurd (eqb-false (x % 256) 0 e (trailing-low (8 * suc w) x 8 (leb-true 8 (count.count_trailing_zeros (8 * suc w) x) l)))
    go (is_false e) (is_false l) ih = rw e (omega (arith, leb-false 8 (count.count_trailing_zeros (8 * suc w) x) l))
