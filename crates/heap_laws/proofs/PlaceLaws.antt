-- The place of a block that fits lies in the shadow. Assumes nothing.
use mathlib.Core.Path.{◌≡◌}
use Prim.Native.Nat.{ℕ, ◌+◌, ◌-◌, ◌/◌, ◌%◌, ◌≤◌, ◌<◌}
use native.Mathlib.Omega.{arith, by_contra}
use native.Mathlib.Nat.{mul-le-mul_right}
use Rattle.plain.specs.Areas.{segments, place_length}
use Rattle.heap_layout.proofs.SegmentLaws.{segments-lt, aligned-eq}

pub place_in : (G b l z : ℕ) → 0 < G → G ≤ b → b % G ≡ 0 → b + l ≤ z → z % G ≡ 0 → b - G + place_length G l ≤ z
unfolding place_length
place_in G b l z g h x f y =
    let eb = aligned-eq g b x in
    let ez = aligned-eq g z y in
    let w : b / G ≤ z / G = by_contra _ _ (λ t. omega (arith, mul-le-mul_right G t)) in
    let n : b / G + segments G l ≤ z / G =
    by_contra _ _ (λ t.
    let u = segments-lt g l (z / G - b / G) (omega arith) in
    let v = mul-le-mul_right {m = z / G} {n = b / G + (z / G - b / G)} G (omega arith) in
    omega arith) in
    omega (arith, mul-le-mul_right G n)
