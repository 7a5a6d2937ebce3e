-- What a turn of the pass keeps. Assumes nothing.
use mathlib.Core.Path.{◌≡◌, refl, sym, ap, ◌∙◌}
use mathlib.Core.Bool.{Bool, true, false, cond, not, ◌&&◌, ◌||◌}
use mathlib.Core.Logic.{◌≢◌}
use mathlib.Core.List.{List, [], ◌∷◌}
use mathlib.Core.Option.{none, some}
use Prim.Native.Nat.{ℕ, ◌+◌, ◌*◌, ◌-◌, ◌%◌, ◌≤◌, ◌<◌}
use native.Mathlib.Omega.{arith}
use native.Mathlib.Nat.{add-mod_right, zero-mod}
use lib.ListN.{length}
use lib.Dec.{leb, ltb, eqb}
use borrow.Author.Tests.{le-leb, lt-leb, ne_eqb, ltb-true, ltb-false, eqb-true, eqb-false}
use Rattle.number.proofs.TestLaws.{Test, is_true, is_false, test, and-true, not-both}
use Rattle.plain.specs.Gaps.{Gap, best}
use Rattle.heap_laws.specs.Scan.{prefer, scanned}
use Rattle.heap_laws.proofs.ScanLaws.{scan-start, scan-gap, scan-full, scan-none}
use Rattle.heap_gap.specs.declared.Scan.{Scan}
use Rattle.heap_gap.specs.Scans as scans
use Rattle.heap_gap.specs.Scans.{chosen_of, choice_of, is_better, Tells, turned}
use Rattle.heap_gap_laws.specs.Pass.{choice, rest, Kept}
use Rattle.heap_gap_laws.proofs.RestLaws.{gap_to, rest-start, rest_end, rest-last, rest-free, rest-ends, rest-idle}

not-true : (b : Bool) → not b ≡ true → b ≡ false
not-true true e = sym e
not-true false e = refl

-- ---- the scan, beside what is left

module _ (need k : ℕ) (g : Scan) (p : ℕ) where
  -- a gap that is looked at: chosen if it fits and is smaller than the one chosen so far
  picked : Test (is_better g need) → g.run ≢ 0
      → chosen_of (cond (is_better g need) (record { looked = g.looked + 1; start = p - g.run; bytes = g.run; run = 0 }) (record g { looked = g.looked + 1; run = 0 }))
      ≡ prefer (chosen_of g) (best need (gap_to p g.run ∷ []))
  unfolding best
  picked (is_true t) n =
      let u = and-true (leb need g.run) (eqb g.bytes 0 || ltb g.run g.bytes) t in
      rw (t, ne_eqb g.run 0 n, u.0) (go (test (eqb g.bytes 0)) u.1)
    where
      go : Test (eqb g.bytes 0) → (eqb g.bytes 0 || ltb g.run g.bytes) ≡ true
          → some (gap_to p g.run) ≡ prefer (chosen_of g) (some (gap_to p g.run))
      go (is_true z) v = rw z
      go (is_false z) v = rw (z, lt-leb g.bytes g.run (ltb-true g.run g.bytes (rw z at v)))
  picked (is_false t) n = rw t (go (test (leb need g.run)) (test (eqb g.bytes 0)) t)
    where
      go : Test (leb need g.run) → Test (eqb g.bytes 0) → is_better g need ≡ false
          → chosen_of g ≡ prefer (chosen_of g) (cond (leb need g.run) (some (gap_to p g.run)) none)
      go (is_true f) (is_true z) v = absurd (not-both true refl (rw (f, z) at v))
      go (is_true f) (is_false z) v = rw (f, z, le-leb g.bytes g.run (ltb-false g.run g.bytes (rw (f, z) at v)))
      go (is_false f) (is_true z) v = rw (f, z)
      go (is_false f) (is_false z) v = rw (f, z)

  -- the free segments end at p: R are the gaps that were left before, gs those that are left now
  pub record Closes (R gs : List Gap) (r : Scan) : Type 0 where
    pub same : scanned need k g.looked (chosen_of g) R ≡ scanned need k r.looked (chosen_of r) gs
    pub none_runs : r.run ≡ 0
    pub before : r.start + r.bytes ≤ p
    pub most : r.looked ≤ k

  closes : (R gs : List Gap) → g.run ≤ p → g.looked ≤ k → g.start + g.bytes ≤ p - g.run → (g.run ≡ 0 → R ≡ gs) → (g.run ≢ 0 → R ≡ gap_to p g.run ∷ gs)
      → Closes R gs (scans.ended g p need k)
  closes R gs i m b e n = go (test (eqb g.run 0)) (test (eqb g.looked k)) (test (is_better g need))
    where
      more : eqb g.run 0 ≡ false → eqb g.looked k ≡ false → (r : Scan) → r.looked ≡ g.looked + 1 → r.run ≡ 0 → r.start + r.bytes ≤ p
          → chosen_of r ≡ prefer (chosen_of g) (best need (gap_to p g.run ∷ [])) → Closes R gs r
      more z f r l u v c =
          let q = eqb-false g.looked k f in
          record {
            same =
                ap (scanned need k g.looked (chosen_of g)) (n (eqb-false g.run 0 z))
                ∙ scan-gap need k g.looked (chosen_of g) (gap_to p g.run) gs (omega arith) ∙ rw (l, c);
            none_runs = u;
            before = v;
            most = omega arith;
          }

      go : Test (eqb g.run 0) → Test (eqb g.looked k) → Test (is_better g need) → Closes R gs (scans.ended g p need k)
      go (is_true z) f t =
          rw z
          (record { same = ap (scanned need k g.looked (chosen_of g)) (e (eqb-true g.run 0 z)); none_runs = refl; before = omega arith; most = m })
      go (is_false z) (is_true f) t =
          let q = eqb-true g.looked k f in
          rw (z, f)
          (record {
            same = scan-full need k g.looked (chosen_of g) R (omega arith) ∙ sym (scan-full need k g.looked (chosen_of g) gs (omega arith));
            none_runs = refl;
            before = omega arith;
            most = m;
          })
      go (is_false z) (is_false f) (is_true t) =
          rw (z, f, t) (more z f _ refl refl (omega arith) (rw t at (picked (is_true t) (eqb-false g.run 0 z))))
      go (is_false z) (is_false f) (is_false t) =
          rw (z, f, t) (more z f _ refl refl (omega arith) (rw t at (picked (is_false t) (eqb-false g.run 0 z))))

-- ---- what a turn keeps

-- n bytes more of free segments
abbrev ran : Scan → (n : ℕ) → Scan
ran g n = record g { run = g.run + n }

module _ {W G : ℕ} (h : List ℕ) (need k : ℕ) where
  pub kept-start : 0 < G → Kept W G h need k (record { looked = 0; start = 0; bytes = 0; run = 0 }) 0
  kept-start z =
      record {
        some = z;
        whole = zero-mod G;
        runs = zero-mod G;
        within = omega arith;
        inside = omega arith;
        most = omega arith;
        before = omega arith;
        stands = rw (rest-start z h W) (sym (scan-start need k (rest G h 0 0)));
      }

  module _ (g : Scan) (p : ℕ) (K : Kept W G h need k g p) where
    pub kept_full : g.looked ≡ k → choice_of g ≡ choice W G need k h
    kept_full e = sym (K.stands ∙ scan-full need k g.looked (chosen_of g) (rest G h p g.run) (omega arith))

    next : (p + G) % G ≡ 0
    next = add-mod_right p G ∙ K.whole

    pub kept-turn : (w : ℕ) → p + G ≤ length h → Tells G h p w → Kept W G h need k (turned G g p w need k) (p + G)
    kept-turn w l e = go (test (eqb w 0))
      where
        go : Test (eqb w 0) → Kept W G h need k (turned G g p w need k) (p + G)
        go (is_true z) =
            rw z
            (record {
              some = K.some;
              whole = next;
              runs = add-mod_right g.run G ∙ K.runs;
              within = omega (arith, K.within);
              inside = l;
              most = K.most;
              before = omega (arith, K.before);
              stands = K.stands ∙ ap (scanned need k g.looked (chosen_of g)) (rest-free K.some h p g.run K.whole K.runs l (sym e.same ∙ z));
            })
        go (is_false z) =
            let c = closes need k g p (rest G h p g.run) (rest G h (p + G) 0) K.within K.most K.before
            (rest-idle K.some h p g.run K.whole K.runs l (sym e.same ∙ z)) (rest-ends K.some h p g.run K.whole K.runs l (sym e.same ∙ z)) in
            let u : (scans.ended g p need k).run ≡ 0 = c.none_runs in
            rw z
            (record {
              some = K.some;
              whole = next;
              runs = ap (λ (x : ℕ). x % G) u ∙ zero-mod G;
              within = omega (arith, u);
              inside = l;
              most = c.most;
              before = omega (arith, u, c.before);
              stands = K.stands ∙ c.same ∙ ap (λ (x : ℕ). scanned need k (scans.ended g p need k).looked (chosen_of (scans.ended g p need k)) (rest G h (p + G) x)) (sym u);
            })

    pub kept-last : length h < p + G → (choice_of (scans.ended g p need k) ≡ choice W G need k h) × ((scans.ended g p need k).start + (scans.ended g p need k).bytes ≤ length h)
    kept-last l =
        let c = closes need k g p (rest G h p g.run) [] K.within K.most K.before (rest_end K.some h p g.run K.whole K.runs l)
        (rest-last K.some h p g.run K.whole K.runs l) in (
          sym (K.stands ∙ c.same ∙ scan-none need k (scans.ended g p need k).looked (chosen_of (scans.ended g p need k))),
          omega (arith, c.before, K.inside),
        )

  -- a turn of the code
  pub kept_next : (g r : Scan) (p q w : ℕ) → Kept W G h need k g p → q ≡ p + G → q ≤ length h → Tells G h p w → r ≡ turned G g p w need k → Kept W G h need k r q
  kept_next g r p q w K e l x y = rw (e, y) (kept-turn g p K w (omega arith) x)

  -- four at once
  pub kept-four : (g : Scan) (p a b c d : ℕ) → Kept W G h need k g p → p + 4 * G ≤ length h
      → Tells G h p a → Tells G h (p + G) b → Tells G h (p + 2 * G) c → Tells G h (p + 3 * G) d
      → (eqb a 0 && eqb b 0 && eqb c 0 && eqb d 0) ≡ true → Kept W G h need k (ran g (4 * G)) (p + 4 * G)
  kept-four g p a b c d K l x y z w t =
      let u = and-true (eqb a 0 && eqb b 0 && eqb c 0) (eqb d 0) t in
      let v = and-true (eqb a 0 && eqb b 0) (eqb c 0) u.0 in
      let o = and-true (eqb a 0) (eqb b 0) v.0 in
      let one = free g (ran g G) p (p + G) a K refl (omega arith) x o.0 refl in
      let two = free (ran g G) (ran g (2 * G)) (p + G) (p + 2 * G) b one (omega arith) (omega arith) y o.1 (omega arith) in
      let three = free (ran g (2 * G)) (ran g (3 * G)) (p + 2 * G) (p + 3 * G) c two (omega arith) (omega arith) z v.1 (omega arith) in
      free (ran g (3 * G)) (ran g (4 * G)) (p + 3 * G) (p + 4 * G) d three (omega arith) l w u.1 (omega arith)
    where
      free : (g r : Scan) (p q w : ℕ) → Kept W G h need k g p → q ≡ p + G → q ≤ length h → Tells G h p w → eqb w 0 ≡ true → r.run ≡ g.run + G
          → Kept W G h need k (record g { run = r.run }) q
      free g r p q w K e l x t f = kept_next g (record g { run = r.run }) p q w K e l x (rw (t, f))

  -- four at once that are not free, where no gap is open
  pub kept-idle : (g : Scan) (p a b c d : ℕ) → Kept W G h need k g p → p + 4 * G ≤ length h
      → Tells G h p a → Tells G h (p + G) b → Tells G h (p + 2 * G) c → Tells G h (p + 3 * G) d
      → (eqb g.run 0 && not (eqb a 0) && not (eqb b 0) && not (eqb c 0) && not (eqb d 0)) ≡ true → Kept W G h need k g (p + 4 * G)
  kept-idle g p a b c d K l x y z w t =
      let u = and-true (eqb g.run 0 && not (eqb a 0) && not (eqb b 0) && not (eqb c 0)) (not (eqb d 0)) t in
      let v = and-true (eqb g.run 0 && not (eqb a 0) && not (eqb b 0)) (not (eqb c 0)) u.0 in
      let o = and-true (eqb g.run 0 && not (eqb a 0)) (not (eqb b 0)) v.0 in
      let r = and-true (eqb g.run 0) (not (eqb a 0)) o.0 in
      let one = on p (p + G) a K refl (omega arith) x r.0 r.1 in
      let two = on (p + G) (p + 2 * G) b one (omega arith) (omega arith) y r.0 o.1 in
      let three = on (p + 2 * G) (p + 3 * G) c two (omega arith) (omega arith) z r.0 v.1 in
      on (p + 3 * G) (p + 4 * G) d three (omega arith) l w r.0 u.1
    where
      on : (p q w : ℕ) → Kept W G h need k g p → q ≡ p + G → q ≤ length h → Tells G h p w → eqb g.run 0 ≡ true → not (eqb w 0) ≡ true → Kept W G h need k g q
      on p q w K e l x r t =
          kept_next g g p q w K e l x
          (ap (λ (n : ℕ). record g { run = n }) (eqb-true g.run 0 r) ∙ rw (not-true (eqb w 0) t, r))
