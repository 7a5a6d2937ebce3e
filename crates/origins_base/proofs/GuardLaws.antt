-- 1 and 2 of this form, as the code tells them. Assumes nothing.
use mathlib.Core.Path.{◌≡◌}
use mathlib.Core.Bool.{Bool, cond, ◌&&◌}
use mathlib.Core.Logic.{◌≢◌}
use Prim.Native.Nat.{ℕ, ◌*◌}
use native.Mathlib.Omega.{arith}
use lib.Dec.{eqb}
use Rattle.number.proofs.TestLaws.{Test, is_true, is_false, test}
use Rattle.map.specs.declared.Map.{Map}
use Rattle.map.specs.FormMap.{player}
use Rattle.map.specs.Map.{good_map}

-- a map, the lengths of heap shadow, primary and secondary, and those of heap cells and stack cells
module _ (m : Map) (h p s x y : ℕ) where
  abbrev shadows_fit : Bool
  shadows_fit = eqb h m.heap_size && eqb p m.stack_size && eqb s m.stack_size

  abbrev cells_fit : Bool
  cells_fit = eqb x (2 * m.heap_size) && eqb y (2 * m.stack_size)

  abbrev pub early : ℕ
  early = cond (good_map (player m)) (cond shadows_fit (cond cells_fit 0 2) 2) 1

  -- the number of the map and the shadows comes first; where that is 0, the cells decide
  pub early-first : (k : ℕ) → k ≡ cond (good_map (player m)) (cond shadows_fit 0 2) 1 → k ≢ 0 → k ≡ early
  early-first k e n = go (test (good_map (player m))) (test shadows_fit)
    where
      go : Test (good_map (player m)) → Test shadows_fit → k ≡ early
      go (is_false g) l = rw g (rw g at e)
      go (is_true g) (is_false l) = rw (g, l) (rw (g, l) at e)
      go (is_true g) (is_true l) = absurd (n (rw (g, l) at e))

  pub early-last : (k : ℕ) → k ≡ cond (good_map (player m)) (cond shadows_fit 0 2) 1 → k ≡ 0 → early ≡ cond cells_fit 0 2
  early-last k e z = go (test (good_map (player m))) (test shadows_fit)
    where
      go : Test (good_map (player m)) → Test shadows_fit → early ≡ cond cells_fit 0 2
      go (is_false g) l = absurd (omega (arith, rw g at e, z))
      go (is_true g) (is_false l) = absurd (omega (arith, rw (g, l) at e, z))
      go (is_true g) (is_true l) = rw (g, l)
