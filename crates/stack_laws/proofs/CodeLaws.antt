-- The codes of short blocks are few. Assumes nothing.
use Prim.Native.Nat.{ℕ, ◌-◌, ◌*◌, ◌≤◌}
use native.Mathlib.Omega.{arith}
use native.Mathlib.Nat.{mul-le-mul}

pub short-small : (L : ℕ) → L ≤ 8 → L * (L - 1) ≤ 56
short-small L h = mul-le-mul {n₁ = L} {m₁ = L - 1} {n₂ = 8} {m₂ = 7} h (omega arith)
