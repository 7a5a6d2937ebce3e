-- What a block makes of its place as it begins, where a segment is two numbers. Assumes nothing.
use mathlib.Core.Path.{◌≡◌, refl, sym, ◌∙◌}
use mathlib.Core.Bool.{Bool, true, false}
use mathlib.Core.List.{List, [], ◌∷◌}
use Prim.Native.Nat.{ℕ, zero, suc, ◌+◌, ◌*◌, ◌-◌, ◌/◌, ◌%◌, ◌^◌, ◌≤◌, ◌<◌, min}
use native.Mathlib.Omega.{arith}
use native.Mathlib.Nat.{div-eq_of_lt-le}
use lib.ListN.{take, drop, replicate, length-replicate}
use Rattle.number.specs.Bits.{of_bits}
use Rattle.number.specs.Parts.{over}
use Rattle.number.proofs.TestLaws.{in-true}
use Rattle.number.proofs.PartLaws.{over-next, over-ext}
use Rattle.types.specs.declared.Beginning.{Beginning}
use Rattle.plain.specs.Block.{Block, len, starts_written, begun}
use Rattle.plain.specs.Areas.{segments, place_length}
use Rattle.plain.specs.Layer.{layer}
use Rattle.heap_layout.specs.Image.{cell_byte, own, heap_byte}
use Rattle.heap_layout.specs.Ops.{heap_stamp}
use Rattle.heap_layout.proofs.SegmentLaws.{Stands, aligned-eq, segments-gt, covers-in}
use Rattle.heap_layout.proofs.CellLaws.{own-header, own-segment, image-shows}
use Rattle.heap_laws.specs.Pair.{pair_byte}
use Rattle.heap_laws.proofs.PairLaws.{cell-header, cell-segment}

-- ---- the written bits of a segment

none-set : (n : ℕ) → of_bits (replicate n false) ≡ 0
unfolding of_bits
none-set zero = refl
none-set (suc n) = rw (none-set n)

all_set : (n : ℕ) → of_bits (replicate n true) + 1 ≡ 2 ^ n
unfolding of_bits
all_set zero = refl
all_set (suc n) = omega (arith, all_set n)

pub bits_none : (w : Bool) (n : ℕ) → w ≡ false → 0 ≡ of_bits (replicate n w)
bits_none w n e = rw (e, none-set n)

pub bits-all : (w : Bool) (n : ℕ) → w ≡ true → of_bits (replicate n w) + 1 ≡ 2 ^ n
bits-all w n e = rw e (all_set n)

-- the marks of a segment of n bytes as the block begins: n, or those up to the block's end
segment-marks : (w : Bool) (n d l : ℕ) → take n (drop d (replicate l w)) ≡ replicate (min n (l - d)) w
segment-marks w zero d l = let e : min 0 (l - d) ≡ 0 = omega arith in rw e
segment-marks w (suc n) zero zero = let e : min (suc n) (0 - 0) ≡ 0 = omega arith in rw e
segment-marks w (suc n) zero (suc l) =
    let e : min (suc n) (suc l - 0) ≡ suc (min n (l - 0)) = omega arith in
    rw (e, segment-marks w n zero l)
segment-marks w (suc n) (suc d) zero = let e : min (suc n) (0 - suc d) ≡ 0 = omega arith in rw e
segment-marks w (suc n) (suc d) (suc l) = let e : suc l - suc d ≡ l - d = omega arith in rw e (segment-marks w (suc n) d l)

-- ---- the place

-- d bytes from the base on are those of the block as it begins
abbrev pub placed : (W G : ℕ) (how : Beginning) (b l d : ℕ) → List ℕ → List ℕ
placed W G how b l d h = over b d (heap_byte W G (begun how b l ∷ [])) h

module _ (W G : ℕ) (g : 0 < G) (two : G ≡ W + W) (how : Beginning) (b l : ℕ) (x : G ≤ b) (y : b % G ≡ 0) (z : 1 ≤ l) where
  -- the block as it begins
  abbrev B : Block
  B = begun how b l

  t : Stands G (b + l) b (len B)
  t = go (b / G) (aligned-eq g b y)
    where
      go : (k : ℕ) → k * G ≡ b → Stands G (b + l) b (len B)
      go zero e = absurd (omega arith)
      go (suc k) e = record { head = k; start = sym e; some = rw (length-replicate l (starts_written how)) z; fits = rw (length-replicate l (starts_written how)) (omega arith) }

  -- byte r of segment s of its place
  own-byte : (s r : ℕ) → t.head ≤ s → s < t.head + suc (segments G (len B)) → r < G → heap_byte W G (B ∷ []) (s * G + r) ≡ cell_byte W (own G B s) r
  unfolding layer
  own-byte s r u v h =
      image-shows W G (B ∷ []) s r h
      ∙ rw (covers-in g (b + l) B t s, in-true t.head (t.head + suc (segments G (len B))) s u v)

  begun-header : (q : ℕ) → b - G ≤ q → q < b → heap_byte W G (B ∷ []) q ≡ pair_byte W 0 l (q - (b - G))
  begun-header q u v =
      let r : ℕ = q - (b - G) in
      let e : t.head * G + r ≡ q = omega (arith, t.start) in
      rw e at (own-byte t.head r (omega arith) (omega arith) (omega arith))
      ∙ rw (own-header g (b + l) B t, length-replicate l (starts_written how)) (cell-header W l r (omega arith))

  begun-segment : (d n q : ℕ) → d % G ≡ 0 → d < l → n ≡ min G (l - d) → b + d ≤ q → q < b + d + G
      → heap_byte W G (B ∷ []) q ≡ pair_byte W (d + 1) (of_bits (replicate n (starts_written how))) (q - (b + d))
  begun-segment d n q m k s u v =
      let r : ℕ = q - (b + d) in
      let a : d / G * G ≡ d = aligned-eq g d m in
      let i : d / G < segments G (len B) = segments-gt g (len B) (d / G) (rw (a, length-replicate l (starts_written how)) k) in
      let e : (suc t.head + d / G) * G + r ≡ q = omega (arith, t.start) in
      rw e at (own-byte (suc t.head + d / G) r (omega arith) (omega arith) (omega arith))
      ∙ rw (own-segment g (b + l) B t (d / G), a, segment-marks (starts_written how) G d l, ← s)
      (cell-segment W d (replicate n (starts_written how)) r)

  pub placed-more : (d n : ℕ) (h : List ℕ) → d % G ≡ 0 → d < l → n ≡ min G (l - d)
      → over (b + d) G (λ q. pair_byte W (d + 1) (of_bits (replicate n (starts_written how))) (q - (b + d))) (placed W G how b l d h) ≡ placed W G how b l (d + G) h
  placed-more d n h m k s =
      over-next b d G (heap_byte W G (B ∷ [])) (λ q. pair_byte W (d + 1) (of_bits (replicate n (starts_written how))) (q - (b + d))) h (λ q u v. sym (begun-segment d n q m k s u v))

  pub placed-all : (d : ℕ) (h : List ℕ) → d % G ≡ 0 → l ≤ d → d < l + G
      → placed W G how b l d (over (b - G) G (λ q. pair_byte W 0 l (q - (b - G))) h) ≡ heap_stamp W G h (begun how b l)
  unfolding heap_stamp place_length segments
  placed-all d h m k v =
      let a : d / G * G ≡ d = aligned-eq g d m in
      let n : (l + (G - 1)) / G ≡ d / G = div-eq_of_lt-le {k = d / G} G {m = l + (G - 1)} (omega arith) (omega arith) in
      let e : b - G + G ≡ b = omega arith in
      rw (length-replicate l (starts_written how), n, a, ← over-ext (b - G) G (heap_byte W G (B ∷ [])) (λ q. pair_byte W 0 l (q - (b - G))) h (λ q s t. begun-header q s (omega arith)))
      (rw e at (over-next (b - G) G d (heap_byte W G (B ∷ [])) (heap_byte W G (B ∷ [])) h (λ q s t. refl)))
