-- The search for the next block, up to an end: at the end, and one address. Assumes nothing.
use mathlib.Core.Path.{◌≡◌}
use Prim.Native.Nat.{ℕ, suc, ◌+◌, ◌-◌, ◌≤◌, ◌<◌}
use native.Mathlib.Numerals.{add-one}
use native.Mathlib.Omega.{arith}
use Rattle.plain.specs.Reading.{Reading, nothing}
use Rattle.plain.specs.ShadowCalls.{stop, climb}

module _ (rd : ℕ → Reading) (end : ℕ) where
  -- the climb from a on
  abbrev pub from : ℕ → Reading
  from a = climb rd a (end - a)

  pub climb-end : (a : ℕ) → end ≤ a → from a ≡ nothing
  unfolding climb
  climb-end a h = let e : end - a ≡ 0 = omega arith in rw e

  pub climb-step : (a : ℕ) → a < end → from a ≡ stop (rd a) (from (a + 1))
  unfolding climb
  climb-step a h = let e : end - a ≡ suc (end - (a + 1)) = omega arith in rw (e, add-one a)
