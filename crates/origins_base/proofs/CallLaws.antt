-- What a call of the form with origins is, once map and lengths are checked. Assumes nothing.
use mathlib.Core.Path.{◌≡◌}
use mathlib.Core.Bool.{true, false, cond}
use mathlib.Core.Logic.{◌≢◌}
use Prim.Native.Nat.{ℕ}
use native.Mathlib.Omega.{arith}
use Rattle.number.proofs.TestLaws.{Test, is_true, is_false, test}
use Rattle.map.specs.declared.Map.{Map}
use Rattle.map.specs.FormMap.{player}
use Rattle.map.specs.Map.{good_map}
use Rattle.plain.specs.Areas.{map_rules}
use Rattle.plain.specs.Call.{refusal}
use Rattle.shadows.specs.Shadows.{lengths_fit, shadow_ops}
use Rattle.origins_list.specs.Call.{Call}
use Rattle.origins_list.specs.StateCalls.{state_step}
use Rattle.cells_layout.specs.Cells.{cells_fit, cell_ops}
use Rattle.origins_base.specs.Calls.{State, call}

-- 1 and 2, as the code tells them
abbrev pub early : Map → State → ℕ
early m x = cond (good_map (player m)) (cond (lengths_fit (player m) x.shadows) (cond (cells_fit m x.cells) 0 2) 2) 1

pub call_step : (m : Map) (c : Call) (x : State) → good_map (player m) ≡ true → lengths_fit (player m) x.shadows ≡ true → cells_fit m x.cells ≡ true
    → call m c x ≡ state_step (map_rules (player m)) (shadow_ops (player m)) (cell_ops m) c x
unfolding call state_step
call_step m c x g l f = rw (g, l, f)

-- a call that 1 or 2 refuses
pub call-early : (m : Map) (c : Call) (x : State) (k : ℕ) → k ≡ early m x → k ≢ 0 → call m c x ≡ (x, refusal k)
unfolding call
call-early m c x k e n = go (test (good_map (player m))) (test (lengths_fit (player m) x.shadows)) (test (cells_fit m x.cells))
  where
    go : Test (good_map (player m)) → Test (lengths_fit (player m) x.shadows) → Test (cells_fit m x.cells) → call m c x ≡ (x, refusal k)
    go (is_false g) l f = let z : k ≡ 1 = rw g at e in rw (g, z)
    go (is_true g) (is_false l) f = let z : k ≡ 2 = rw (g, l) at e in rw (g, l, z)
    go (is_true g) (is_true l) (is_false f) = let z : k ≡ 2 = rw (g, l, f) at e in rw (g, l, f, z)
    go (is_true g) (is_true l) (is_true f) = absurd (n (rw (g, l, f) at e))

pub early-good : (m : Map) (x : State) → 0 ≡ early m x → (good_map (player m) ≡ true) × (lengths_fit (player m) x.shadows ≡ true) × (cells_fit m x.cells ≡ true)
early-good m x e = go (test (good_map (player m))) (test (lengths_fit (player m) x.shadows)) (test (cells_fit m x.cells))
  where
    go : Test (good_map (player m)) → Test (lengths_fit (player m) x.shadows) → Test (cells_fit m x.cells)
        → (good_map (player m) ≡ true) × (lengths_fit (player m) x.shadows ≡ true) × (cells_fit m x.cells ≡ true)
    go (is_false g) l f = absurd (omega (arith, rw g at e))
    go (is_true g) (is_false l) f = absurd (omega (arith, rw (g, l) at e))
    go (is_true g) (is_true l) (is_false f) = absurd (omega (arith, rw (g, l, f) at e))
    go (is_true g) (is_true l) (is_true f) = (g, l, f)

-- a call whose cells do not fit: 1 where the map is bad, else 2
pub call-unfit : (m : Map) (c : Call) (x : State) → cells_fit m x.cells ≡ false → call m c x ≡ (x, refusal (cond (good_map (player m)) 2 1))
unfolding call
call-unfit m c x f = go (test (good_map (player m))) (test (lengths_fit (player m) x.shadows))
  where
    go : Test (good_map (player m)) → Test (lengths_fit (player m) x.shadows) → call m c x ≡ (x, refusal (cond (good_map (player m)) 2 1))
    go (is_false g) l = rw g
    go (is_true g) (is_false l) = rw (g, l)
    go (is_true g) (is_true l) = rw (g, l, f)
