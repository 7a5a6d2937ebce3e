-- Halves of segments, at segments of 16 bytes with numbers of 8: one byte has the written bits of a half. Assumes nothing.
use mathlib.Core.Path.{◌≡◌}
use mathlib.Core.Logic.{◌⊎◌, inl, inr}
use Prim.Native.Nat.{ℕ, ◌+◌, ◌-◌, ◌%◌, ◌<◌}
use native.Mathlib.Omega.{arith}
use Rattle.heap_layout.specs.Reading.{bits_place}

-- how far on from q its byte of written bits is, and that of the position 8 on
abbrev pub Ahead : (q own next : ℕ) → Type 0
Ahead q own next = (q + own ≡ bits_place 8 16 q) × (q + next ≡ bits_place 8 16 (q + 8))

-- 8 and 9 from the start of a first half, 1 and 16 from that of a second
pub half-ahead : (q own : ℕ) → q % 8 ≡ 0 → ((q % 16 ≡ 0) × (own ≡ 8)) ⊎ ((q % 16 ≡ 0 → ⊥) × (own ≡ 1)) → Ahead q own (17 - own)
half-ahead q own h (inl (m, e)) = (omega arith, omega arith)
half-ahead q own h (inr (m, e)) = (omega arith, omega arith)

on : (q k own : ℕ) → k + own ≡ bits_place 8 16 q → k + 16 + own ≡ bits_place 8 16 (q + 16)
on q k own e = omega arith

-- as far in the segment after
pub ahead-on : (q own next : ℕ) → Ahead q own next → Ahead (q + 16) own next
ahead-on q own next a = let e : q + 16 + 8 ≡ q + 8 + 16 = omega arith in (on q q own a.0, rw e (on (q + 8) q next a.1))

-- in a shadow of whole segments
pub byte-in : (q k size : ℕ) → size % 16 ≡ 0 → q < size → k ≡ bits_place 8 16 q → k < size
byte-in q k size w h e = omega arith
