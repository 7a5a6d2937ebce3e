-- Where the written bits of addresses stand. Assumes nothing.
use mathlib.Core.Path.{◌≡◌, ap}
use Prim.Native.Nat.{ℕ, ◌+◌, ◌*◌, ◌-◌, ◌/◌, ◌%◌, ◌≤◌, ◌<◌}
use native.Mathlib.Omega.{arith}
use native.Mathlib.Nat.{mul-le-mul_right, mul-mod_left, le-div_iff_mul-le, div-lt_iff_lt-mul, mod-lt}
use Rattle.heap_layout.specs.Reading.{bits_place}
use Rattle.heap_layout.proofs.SegmentLaws.{aligned-eq}

-- the position of a multiple in an area that begins at one is a multiple
pub aligned-sub : (G b h : ℕ) → 0 < G → h ≤ b → b % G ≡ 0 → h % G ≡ 0 → (b - h) % G ≡ 0
aligned-sub G b h g l x y =
    let eb = aligned-eq g b x in
    let eh = aligned-eq g h y in
    let k = (le-div_iff_mul-le {k = G} {x = h / G} {y = b} g).1 (omega arith) in
    let n : b / G ≡ h / G + (b / G - h / G) = omega arith in
    let m : b / G * G ≡ (h / G + (b / G - h / G)) * G = ap (λ (z : ℕ). z * G) n in
    let e : b - h ≡ (b / G - h / G) * G = omega arith in
    rw e (mul-mod_left (b / G - h / G) G)

module _ (W G : ℕ) (wide : 4 ≤ W) (two : W + W ≤ G) where
  -- a byte of written bits stands in its segment
  pub bits_in : (p : ℕ) → W + p % G / 8 < G
  bits_in p = omega (arith, mod-lt p {m = G} (omega arith))

  -- that of a position of n segments from c on stands in them
  pub bits-among : (c n p : ℕ) → c % G ≡ 0 → c ≤ p → p < c + n * G → (c ≤ bits_place W G p) × (bits_place W G p < c + n * G)
  bits-among c n p a x y =
      let g : 0 < G = omega arith in
      let e = aligned-eq g c a in
      let lo = (le-div_iff_mul-le {k = G} {x = c / G} {y = p} g).1 (omega arith) in
      let hi = (div-lt_iff_lt-mul {k = G} {x = p} {y = c / G + n} g).1 (omega arith) in
      (omega (arith, mul-le-mul_right G lo), omega (arith, mul-le-mul_right G hi, bits_in p))
