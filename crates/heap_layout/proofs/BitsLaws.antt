-- Positions whose written bits lie in one byte are marked and tested together. Assumes nothing.
use mathlib.Core.Path.{◌≡◌, refl, sym, ap, ◌∙◌}
use mathlib.Core.List.{List}
use Prim.Native.Nat.{ℕ, zero, suc, ◌+◌, ◌*◌, ◌/◌, ◌%◌, ◌≤◌, ◌<◌}
use native.Mathlib.Omega.{arith}
use native.Mathlib.Nat.{add-zero, add-suc, suc-add, div-add-mod'}
use lib.ListN.{length, set, length-set}
use lib.Seq.{set-get_or, set-set, get_or-set_same}
use lib.Arith.{digits_div, digits_mod}
use Rattle.number.specs.Bits.{with_bit, with_bits, bits_set}
use Rattle.number.specs.Parts.{at}
use Rattle.plain.specs.Ops.{mark_range, range_marked}
use Rattle.heap_layout.specs.Reading.{bits_place}
use Rattle.heap_layout.specs.Ops.{heap_mark, heap_marked, heap_ops}

-- the bits of the n positions from p on lie in byte k, from bit j on
abbrev Run : (W G p n k j : ℕ) → Type 0
Run W G p n k j = (i : ℕ) → i < n → (bits_place W G (p + i) ≡ k) × ((p + i) % G % 8 ≡ j + i)

module _ (W G : ℕ) where
  run-first : (p n k j : ℕ) → Run W G p (suc n) k j → (bits_place W G p ≡ k) × (p % G % 8 ≡ j)
  run-first p n k j r = rw (add-zero p, add-zero j) at (r 0 (omega arith))

  run-rest : (p n k j : ℕ) → Run W G p (suc n) k j → Run W G (suc p) n k (suc j)
  run-rest p n k j r i h = rw (suc-add p i, suc-add j i, ← add-suc p i, ← add-suc j i) (r (suc i) (omega arith))

  -- positions of one segment whose bits do not pass the byte
  one_byte : (p n : ℕ) → p % G % 8 + n ≤ 8 → p % G + n ≤ G → Run W G p n (bits_place W G p) (p % G % 8)
  one_byte p n h k i x =
      let e : p + i ≡ p / G * G + (p % G + i) = omega (arith, div-add-mod' p G) in
      let d : (p + i) / G ≡ p / G = ap (λ (q : ℕ). q / G) e ∙ digits_div (p / G) (omega arith) in
      let m : (p + i) % G ≡ p % G + i = ap (λ (q : ℕ). q % G) e ∙ digits_mod (p / G) (omega arith) in
      let o : (p % G + i) / 8 ≡ p % G / 8 = omega arith in
      (rw (d, m, o), rw m (omega arith))

  module _ (size : ℕ) where
    run-marks : (n p k j : ℕ) (h : List ℕ) → k < length h → Run W G p n k j → mark_range (heap_ops W G size) h p n ≡ set h k (with_bits (at h k) j n)
    unfolding mark_range heap_mark with_bits
    run-marks zero p k j h l r = sym (set-get_or h k 0)
    run-marks (suc n) p k j h l r =
        let f = run-first p n k j r in
        let v : ℕ = with_bit (at h k) j in
        rw (f.0, f.1)
        (run-marks n (suc p) k (suc j) (set h k v) (rw (length-set h k v) l) (run-rest p n k j r) ∙ rw (get_or-set_same h k v 0 l) (set-set h k v (with_bits v (suc j) n)))

    run-marked : (n p k j : ℕ) (h : List ℕ) → Run W G p n k j → range_marked (heap_ops W G size) h p n ≡ bits_set (at h k) j n
    unfolding range_marked heap_marked bits_set
    run-marked zero p k j h r = refl
    run-marked (suc n) p k j h r =
        let f = run-first p n k j r in
        rw (f.0, f.1, run-marked n (suc p) k (suc j) h (run-rest p n k j r))

    -- n positions of one segment, whose bits lie in byte k from bit j on
    module _ (h : List ℕ) (p n k j : ℕ) (x : j + n ≤ 8) (y : p % G + n ≤ G) (u : k ≡ bits_place W G p) (v : j ≡ p % G % 8) where
      run : Run W G p n k j
      run = rw (u, v) (one_byte p n (rw v at x) y)

      pub mark-byte : k < length h → mark_range (heap_ops W G size) h p n ≡ set h k (with_bits (at h k) j n)
      mark-byte l = run-marks n p k j h l run

      pub marked-byte : range_marked (heap_ops W G size) h p n ≡ bits_set (at h k) j n
      marked-byte = run-marked n p k j h run
