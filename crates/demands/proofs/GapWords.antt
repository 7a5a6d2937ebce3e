-- The gaps by which place goes, in the words of specs/Gaps.antt. Assumes nothing.
use mathlib.Core.Path.{◌≡◌, refl, ◌∙◌}
use mathlib.Core.Bool.{true}
use mathlib.Core.List.{List, [], ◌∷◌, ◌++◌, map}
use Prim.Native.Nat.{ℕ, ◌+◌, ◌*◌, ◌≤◌, ◌<◌}
use native.Mathlib.Omega.{arith}
use native.Mathlib.Nat.{mul-le-mul_right, lt_of_mul-lt-mul_right}
use lib.ListN.{take}
use lib.Dec.{ltb}
use borrow.Author.Tests.{lt-ltb, ltb-true}
use Rattle.number.specs.Parts.{at}
use Rattle.number.proofs.TestLaws.{and-true}
use Rattle.map.specs.FormMap.{FormMap}
use Rattle.map.proofs.MapLaws.{segment-least}
use Rattle.plain.specs.Areas.{segments, place_length}
use Rattle.plain.specs.Gaps.{Gap, gaps_of, Among}
use Rattle.plain.specs.Lift.{gap_up}
use Rattle.plain.proofs.AreaLaws.{segments-up, segments-down}
use Rattle.plain.proofs.GapLaws.{gaps-up}
use Rattle.heap_layout.specs.Ops.{heap_gaps}
use Rattle.shadows.specs.Shadows.{Shadows, shadow_ops}
use Rattle.demands.specs.Gaps.{heap_segments, is_zero, begins_run, runs_below, is_looked}
use Rattle.demands.specs.Places.{WholeSegments}
use Rattle.demands.proofs.GapLists.{gap_at, listed, gaps-listed, listed-looked, looked-listed}

-- ---- whole segments

pub whole-segments : (m : FormMap) → WholeSegments m
whole-segments m l =
    let g : 0 < m.segment = omega (arith, segment-least m) in
    (segments-up m.segment g l, omega (arith, segments-down m.segment l))

-- whole segments hold header and block exactly if they hold the block's bytes behind the header
pub holds-need : (m : FormMap) (l n : ℕ) → m.segment + l ≤ n * m.segment → place_length m.segment l ≤ n * m.segment
unfolding place_length
holds-need m l n h =
    let k = lt_of_mul-lt-mul_right m.segment {m = segments m.segment l} {n = n} (omega (arith, (whole-segments m l).1)) in
    omega (arith, mul-le-mul_right m.segment k)

pub need-holds : (m : FormMap) (l n : ℕ) → place_length m.segment l ≤ n * m.segment → m.segment + l ≤ n * m.segment
unfolding place_length
need-holds m l n h = omega (arith, (whole-segments m l).0)

-- ---- the gaps of the definition

module _ (m : FormMap) (s : Shadows) where
  abbrev N : ℕ
  N = heap_segments m

  abbrev pub gap_at_segment : ℕ → Gap
  gap_at_segment i = gap_at m.segment (is_zero m s) m.heap_start N i

  append-nil : (gs : List Gap) → gs ++ [] ≡ gs
  append-nil [] = refl
  append-nil (g ∷ gs) = rw (append-nil gs)

  pub gaps-words : (shadow_ops m).gaps s ≡ listed m.segment (is_zero m s) m.heap_start N N 0
  unfolding heap_gaps
  gaps-words =
      append-nil (map (gap_up m.heap_start) (gaps_of m.segment 0 (is_zero m s) N)) ∙ gaps-up m.segment m.heap_start (is_zero m s) N 0 0 ∙ gaps-listed m.segment (is_zero m s) m.heap_start N

  -- a gap that is looked at, by its first segment
  pub looked-among : (k i : ℕ) → i < N → is_looked m s k i ≡ true → Among (gap_at_segment i) (take k ((shadow_ops m).gaps s))
  unfolding runs_below
  looked-among k i l e =
      let u = and-true (begins_run (is_zero m s) i) (ltb (runs_below (is_zero m s) i) k) e in
      let v = ltb-true (runs_below (is_zero m s) i) k u.1 in
      rw gaps-words (looked-listed m.segment (is_zero m s) m.heap_start N k N 0 i (omega arith) (omega arith) u.0 (omega arith))

  pub among-looked : (k : ℕ) (g : Gap) → Among g (take k ((shadow_ops m).gaps s)) → (i : ℕ) × (i < N) × (is_looked m s k i ≡ true) × (g ≡ gap_at_segment i)
  unfolding runs_below
  among-looked k g a =
      let r = listed-looked m.segment (is_zero m s) m.heap_start N k N 0 g (rw gaps-words at a) in
      let j = r.0 in
      (j, omega (arith, r.1.high), rw (r.1.begins, lt-ltb (runs_below (is_zero m s) j) k (omega (arith, r.1.few))), r.1.same)
