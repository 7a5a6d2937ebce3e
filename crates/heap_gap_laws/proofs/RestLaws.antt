-- The gaps that are left at a position of the pass, segment by segment. Assumes nothing.
use mathlib.Core.Path.{◌≡◌, ap, ◌∙◌}
use mathlib.Core.Bool.{Bool, true, false}
use mathlib.Core.Logic.{◌≢◌}
use mathlib.Core.List.{List, [], ◌∷◌, ◌++◌}
use Prim.Native.Nat.{ℕ, zero, suc, ◌+◌, ◌*◌, ◌-◌, ◌/◌, ◌%◌, ◌≤◌, ◌<◌}
use native.Mathlib.Omega.{arith}
use native.Mathlib.Nat.{add-div_right, div-eq_of_lt, mul-sub, sub-zero, zero-div}
use native.Mathlib.Numerals.{add-one}
use lib.ListN.{length}
use Rattle.number.specs.Parts.{at, zeros}
use Rattle.plain.specs.Gaps.{Gap, ended, gaps_after}
use Rattle.plain.proofs.GapLaws.{gaps-free, gaps-taken}
use Rattle.heap_layout.specs.Ops.{heap_gaps}
use Rattle.heap_layout.proofs.SegmentLaws.{aligned-eq}
use Rattle.heap_gap_laws.specs.Pass.{free, rest}

abbrev pub gap_to : (p run : ℕ) → Gap
gap_to p run = record { start = p - run; bytes = run }

module _ {G : ℕ} (some : 0 < G) where
  -- a segment further on
  up : (x : ℕ) → (x + G) / G ≡ suc (x / G)
  up x = add-div_right x some ∙ add-one (x / G)

  -- a run that ends
  ended_at : (f : ℕ → Bool) (p run : ℕ) → p % G ≡ 0 → run % G ≡ 0 → run ≢ 0 → ended G 0 f (p / G) (run / G) ≡ gap_to p run ∷ []
  ended_at f p run x y z = go (run / G) (aligned-eq some run y)
    where
      go : (r : ℕ) → r * G ≡ run → ended G 0 f (p / G) r ≡ gap_to p run ∷ []
      go zero e = absurd (z (omega arith))
      go (suc r) e =
          let u : 0 + (p / G - suc r) * G ≡ p - run = omega (arith, aligned-eq some p x, mul-sub G (p / G) (suc r)) in
          rw (u, e)

  module _ (h : List ℕ) where
    pub rest-start : (W : ℕ) → heap_gaps W G (length h) h ≡ rest G h 0 0
    unfolding heap_gaps rest
    rest-start W = rw (sub-zero (length h), zero-div G)

    module _ (p run : ℕ) (x : p % G ≡ 0) (y : run % G ≡ 0) where
      none_left : length h < p + G → (length h - p) / G ≡ 0
      none_left l = div-eq_of_lt {n = length h - p} {m = G} (omega arith)

      pub rest_end : length h < p + G → run ≡ 0 → rest G h p run ≡ []
      unfolding rest gaps_after
      rest_end l z = rw (none_left l, z, zero-div G)

      pub rest-last : length h < p + G → run ≢ 0 → rest G h p run ≡ gap_to p run ∷ []
      unfolding rest gaps_after
      rest-last l z = rw (none_left l) (ended_at (free G h) p run x y z)

      module _ (l : p + G ≤ length h) where
        left : (length h - p) / G ≡ suc ((length h - (p + G)) / G)
        left = let e : length h - p ≡ length h - (p + G) + G = omega arith in ap (λ (n : ℕ). n / G) e ∙ up (length h - (p + G))

        at_p : p / G * G ≡ p
        at_p = aligned-eq some p x

        pub rest-free : zeros (at h) p G ≡ true → rest G h p run ≡ rest G h (p + G) (run + G)
        unfolding rest
        rest-free e =
            rw (left, up p, up run) (gaps-free G 0 (free G h) ((length h - (p + G)) / G) (p / G) (run / G) (rw at_p e))

        pub rest-ends : zeros (at h) p G ≡ false → run ≢ 0 → rest G h p run ≡ gap_to p run ∷ rest G h (p + G) 0
        unfolding rest
        rest-ends n z =
            rw (left, up p, zero-div G)
            (gaps-taken G 0 (free G h) ((length h - (p + G)) / G) (p / G) (run / G) (rw at_p n)
            ∙ ap (λ (gs : List Gap). gs ++ gaps_after G 0 (free G h) ((length h - (p + G)) / G) (suc (p / G)) 0) (ended_at (free G h) p run x y z))

        pub rest-idle : zeros (at h) p G ≡ false → run ≡ 0 → rest G h p run ≡ rest G h (p + G) 0
        unfolding rest
        rest-idle n z = rw (left, up p, z, zero-div G) (gaps-taken G 0 (free G h) ((length h - (p + G)) / G) (p / G) 0 (rw at_p n))
