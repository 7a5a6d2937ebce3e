-- The gaps of a heap as the list of its longest runs of free segments. Assumes nothing.
use mathlib.Core.Path.{◌≡◌, refl, sym, ap, ◌∙◌, subst}
use mathlib.Core.Logic.{inl, inr, ⊎_elim}
use mathlib.Core.Bool.{Bool, true, false, cond}
use mathlib.Core.List.{List, [], ◌∷◌}
use Prim.Native.Nat.{ℕ, zero, suc, ◌+◌, ◌*◌, ◌-◌, ◌≤◌, ◌<◌, min}
use native.Mathlib.Omega.{arith}
use native.Mathlib.Nat.{mul-le-mul_right}
use lib.ListN.{length, take, length-take}
use lib.Dec.{ltb, eqb}
use borrow.Author.Tests.{ltb-true, ltb-false, eqb-true, eqb-false}
use Rattle.number.specs.Parts.{Each, run_of}
use Rattle.number.proofs.TestLaws.{Test, is_true, is_false, test, not-both}
use Rattle.number.proofs.RunLaws.{run-at}
use Rattle.plain.specs.Gaps.{Gap, gaps_after, gaps_of, Among, Ascending}
use Rattle.demands.specs.Gaps.{begins_run, runs_below}
use Rattle.demands.proofs.GapRuns.{begins-before, goes_on, begins-anew}

module _ (G : ℕ) (f : ℕ → Bool) (from N : ℕ) where
  -- the gap that begins at segment i
  abbrev pub gap_at : ℕ → Gap
  gap_at i = record { start = from + i * G; bytes = run_of f i (N - i) * G }

  -- the gaps that begin at one of the n segments from i on
  unfoldable pub listed : (n i : ℕ) → List Gap
  listed zero i = []
  listed (suc n) i = cond (begins_run f i) (gap_at i ∷ listed n (suc i)) (listed n (suc i))

  run-goes : (i : ℕ) → f i ≡ true → i < N → run_of f i (N - i) ≡ suc (run_of f (suc i) (N - suc i))
  unfolding run_of
  run-goes i e l = let n : N - i ≡ suc (N - suc i) = omega arith in rw (n, e)

  run_none : (i : ℕ) → f i ≡ false → i < N → run_of f i (N - i) ≡ 0
  unfolding run_of
  run_none i e l = let n : N - i ≡ suc (N - suc i) = omega arith in rw (n, e)

  -- a run of r segments that goes on at i
  abbrev opened : (i r : ℕ) → Gap
  opened i r = record { start = from + (i - r) * G; bytes = (r + run_of f i (N - i)) * G }

  -- where no segment before i is free, or r of them are
  both : (n i : ℕ) → i + n ≡ N
      → (begins_run f i ≡ f i → gaps_after G from f n i 0 ≡ listed n i) × ((r : ℕ) → begins_run f i ≡ false → gaps_after G from f n i (suc r) ≡ opened i (suc r) ∷ listed n i)
  unfolding gaps_after listed run_of
  both zero i e = (λ b. refl, λ r b. let z : N - i ≡ 0 = omega arith in let p : suc r + 0 ≡ suc r = omega arith in rw (z, p))
  both (suc n) i e = go (test (f i)) (both n (suc i) (omega arith))
    where
      go : Test (f i)
          → (begins_run f (suc i) ≡ f (suc i) → gaps_after G from f n (suc i) 0 ≡ listed n (suc i))
          × ((r : ℕ) → begins_run f (suc i) ≡ false → gaps_after G from f n (suc i) (suc r) ≡ opened (suc i) (suc r) ∷ listed n (suc i))
          → (begins_run f i ≡ f i → cond (f i) (gaps_after G from f n (suc i) 1) (gaps_after G from f n (suc i) 0) ≡ cond (begins_run f i) (gap_at i ∷ listed n (suc i)) (listed n (suc i)))
          × ((r : ℕ) → begins_run f i ≡ false
          → cond (f i) (gaps_after G from f n (suc i) (suc (suc r))) (record { start = from + (i - suc r) * G; bytes = suc r * G } ∷ gaps_after G from f n (suc i) 0)
          ≡ opened i (suc r) ∷ cond (begins_run f i) (gap_at i ∷ listed n (suc i)) (listed n (suc i)))
      go (is_true t) ih = (
        λ b.
            let s : suc i - 1 ≡ i = omega arith in
            let q : 1 + run_of f (suc i) (N - suc i) ≡ suc (run_of f (suc i) (N - suc i)) = omega arith in
            rw (b, t, ih.1 0 (goes_on f i t), run-goes i t (omega arith), s, q),
        λ r b.
            let s : suc i - suc (suc r) ≡ i - suc r = omega arith in
            let q : suc (suc r) + run_of f (suc i) (N - suc i) ≡ suc r + suc (run_of f (suc i) (N - suc i)) = omega arith in
            rw (t, b, ih.1 (suc r) (goes_on f i t), run-goes i t (omega arith), s, q),
      )
      go (is_false t) ih = (
        λ b. rw (b, t) (ih.0 (begins-anew f i t)),
        λ r b. let q : suc r + 0 ≡ suc r = omega arith in rw (t, b, run_none i t (omega arith), q, ih.0 (begins-anew f i t)),
      )

  pub gaps-listed : gaps_of G from f N ≡ listed N 0
  gaps-listed = (both N 0 (omega arith)).0 refl

  -- ---- which gaps are among the first k

  pub record Looked (k i n : ℕ) (g : Gap) (j : ℕ) : Type 0 where
    pub low : i ≤ j
    pub high : j < i + n
    pub begins : begins_run f j ≡ true
    pub same : g ≡ gap_at j
    pub few : runs_below f j < k + runs_below f i

  pub below-begins : (i : ℕ) → begins_run f i ≡ true → runs_below f (suc i) ≡ runs_below f i + 1
  unfolding runs_below
  below-begins i e = rw e

  pub below-not : (i : ℕ) → begins_run f i ≡ false → runs_below f (suc i) ≡ runs_below f i
  unfolding runs_below
  below-not i e = rw e (omega arith)

  pub listed-looked : (k n i : ℕ) (g : Gap) → Among g (take k (listed n i)) → (j : ℕ) × Looked k i n g j
  unfolding listed
  listed-looked zero n i g a = elim a [ ]
  listed-looked (suc k) zero i g a = elim a [ ]
  listed-looked (suc k) (suc n) i g a = go (test (begins_run f i)) a (listed-looked k n (suc i) g) (listed-looked (suc k) n (suc i) g)
    where
      further : (k' : ℕ) → k' + runs_below f (suc i) ≤ suc k + runs_below f i → (j : ℕ) × Looked k' (suc i) n g j → (j : ℕ) × Looked (suc k) i (suc n) g j
      further k' l r = (
        r.0,
        record { low = omega (arith, r.1.low); high = omega (arith, r.1.high); begins = r.1.begins; same = r.1.same; few = omega (arith, r.1.few) },
      )

      go : Test (begins_run f i) → Among g (take (suc k) (cond (begins_run f i) (gap_at i ∷ listed n (suc i)) (listed n (suc i))))
          → (Among g (take k (listed n (suc i))) → (j : ℕ) × Looked k (suc i) n g j)
          → (Among g (take (suc k) (listed n (suc i))) → (j : ℕ) × Looked (suc k) (suc i) n g j) → (j : ℕ) × Looked (suc k) i (suc n) g j
      go (is_true t) a less same =
          ⊎_elim (λ q. (i, record { low = omega arith; high = omega arith; begins = t; same = q; few = omega arith }))
          (λ b. further k (omega (arith, below-begins i t)) (less b)) (rw t at a)
      go (is_false t) a less same = further (suc k) (omega (arith, below-not i t)) (same (rw t at a))

  below_more : (n i : ℕ) → runs_below f i ≤ runs_below f (i + n)
  unfolding runs_below
  below_more zero i = let e : i + 0 ≡ i = omega arith in rw e (omega arith)
  below_more (suc n) i = let e : i + suc n ≡ suc (i + n) = omega arith in rw e (omega (arith, below_more n i))

  pub looked-listed : (k n i j : ℕ) → i ≤ j → j < i + n → begins_run f j ≡ true → runs_below f j < k + runs_below f i → Among (gap_at j) (take k (listed n i))
  unfolding listed
  looked-listed zero n i j x y b l = absurd (let e : i + (j - i) ≡ j = omega arith in omega (arith, rw e at (below_more (j - i) i)))
  looked-listed (suc k) zero i j x y b l = absurd (omega arith)
  looked-listed (suc k) (suc n) i j x y b l =
      go (test (begins_run f i)) (test (eqb i j)) (λ p q. looked-listed k n (suc i) j p (omega arith) b q) (λ p q. looked-listed (suc k) n (suc i) j p (omega arith) b q)
    where
      go : Test (begins_run f i) → Test (eqb i j) → (suc i ≤ j → runs_below f j < k + runs_below f (suc i) → Among (gap_at j) (take k (listed n (suc i))))
          → (suc i ≤ j → runs_below f j < suc k + runs_below f (suc i) → Among (gap_at j) (take (suc k) (listed n (suc i))))
          → Among (gap_at j) (take (suc k) (cond (begins_run f i) (gap_at i ∷ listed n (suc i)) (listed n (suc i))))
      go (is_true t) (is_true q) less same = rw t (inl (ap gap_at (sym (eqb-true i j q))))
      go (is_true t) (is_false q) less same =
          let d = eqb-false i j q in rw t (inr (less (omega arith) (omega (arith, below-begins i t))))
      go (is_false t) (is_true q) less same = absurd (not-both (begins_run f j) b (subst (λ (z : ℕ). begins_run f z ≡ false) (eqb-true i j q) t))
      go (is_false t) (is_false q) less same =
          let d = eqb-false i j q in rw t (same (omega arith) (omega (arith, below-not i t)))

  -- ---- how many there are, and their order

  length-listed : (n i : ℕ) → length (listed n i) + runs_below f i ≡ runs_below f (i + n)
  unfolding listed
  length-listed zero i = let e : i + 0 ≡ i = omega arith in rw e (omega arith)
  length-listed (suc n) i = go (test (begins_run f i)) (length-listed n (suc i))
    where
      go : Test (begins_run f i) → length (listed n (suc i)) + runs_below f (suc i) ≡ runs_below f (suc i + n)
          → length (cond (begins_run f i) (gap_at i ∷ listed n (suc i)) (listed n (suc i))) + runs_below f i ≡ runs_below f (i + suc n)
      go (is_true t) ih = let e : i + suc n ≡ suc i + n = omega arith in rw (t, e) (omega (arith, ih, below-begins i t))
      go (is_false t) ih = let e : i + suc n ≡ suc i + n = omega arith in rw (t, e) (omega (arith, ih, below-not i t))

  pub count-listed : length (listed N 0) ≡ runs_below f N
  unfolding runs_below
  count-listed = let e : 0 + N ≡ N = omega arith in omega (arith, rw e at (length-listed N 0))

  pub looked-count : (k : ℕ) → length (take k (listed N 0)) ≡ min k (runs_below f N)
  looked-count k = length-take k (listed N 0) ∙ ap (min k) count-listed

  -- a run ends before a later one begins
  apart : (b j : ℕ) → b < j → begins_run f j ≡ true → b + run_of f b (N - b) < j
  apart b zero l e = absurd (omega arith)
  apart b (suc j) l e = go (test (ltb (b + run_of f b (N - b)) (suc j)))
    where
      go : Test (ltb (b + run_of f b (N - b)) (suc j)) → b + run_of f b (N - b) < suc j
      go (is_true t) = ltb-true (b + run_of f b (N - b)) (suc j) t
      go (is_false t) =
          let x = ltb-false (b + run_of f b (N - b)) (suc j) t in
          let p : b + (j - b) ≡ j = omega arith in
          let y : f j ≡ true = rw p at (run-at f b (N - b) (j - b) (omega arith)) in
          absurd (not-both (f j) y (begins-before f (suc j) j e refl))

  each-later : 0 < G → (b n i : ℕ) → b < i → Each (λ (h : Gap). (gap_at b).start + (gap_at b).bytes < h.start) (listed n i)
  unfolding listed
  each-later g b zero i l = tt
  each-later g b (suc n) i l = go (test (begins_run f i)) (each-later g b n (suc i) (omega arith))
    where
      go : Test (begins_run f i) → Each (λ (h : Gap). (gap_at b).start + (gap_at b).bytes < h.start) (listed n (suc i))
          → Each (λ (h : Gap). (gap_at b).start + (gap_at b).bytes < h.start) (cond (begins_run f i) (gap_at i ∷ listed n (suc i)) (listed n (suc i)))
      go (is_true t) ih = rw t (omega (arith, mul-le-mul_right G (apart b i l t)), ih)
      go (is_false t) ih = rw t ih

  ascends : 0 < G → (n i : ℕ) → Ascending (listed n i)
  unfolding listed
  ascends g zero i = tt
  ascends g (suc n) i = go (test (begins_run f i)) (ascends g n (suc i))
    where
      go : Test (begins_run f i) → Ascending (listed n (suc i)) → Ascending (cond (begins_run f i) (gap_at i ∷ listed n (suc i)) (listed n (suc i)))
      go (is_true t) ih = rw t (each-later g i n (suc i) (omega arith), ih)
      go (is_false t) ih = rw t ih

  pub ascending : 0 < G → Ascending (listed N 0)
  ascending g = ascends g N 0
