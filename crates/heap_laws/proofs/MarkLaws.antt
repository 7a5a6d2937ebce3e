-- The written bits: positions whose bits lie in one byte are marked and tested by that byte. Assumes nothing.
use mathlib.Core.Path.{◌≡◌, ◌∙◌}
use mathlib.Core.Bool.{Bool, false, ◌&&◌}
use mathlib.Core.List.{List}
use Prim.Native.Nat.{ℕ, ◌+◌, ◌/◌, ◌%◌, ◌≤◌, ◌<◌}
use native.Mathlib.Omega.{arith}
use lib.ListN.{length, set}
use lib.Dec.{eqb}
use borrow.Author.Tests.{ne_eqb}
use Rattle.number.specs.Bits.{bit_of, with_bits, bits_set}
use Rattle.number.specs.Parts.{at}
use Rattle.number.proofs.BitLaws.{bit_of-lt}
use Rattle.plain.specs.Ops.{mark_range, range_marked}
use Rattle.plain.proofs.MarkedLaws.{mark-next, marked_next}
use Rattle.heap_layout.specs.Reading.{bits_place}
use Rattle.heap_layout.specs.Ops.{heap_ops}
use Rattle.heap_layout.proofs.BitsLaws.{mark-byte, marked-byte}

-- a written bit alone has no bit 1
pub bit-alone : (b j : ℕ) → (bit_of b j % 2 ≡ bit_of b j) × (eqb (bit_of b j / 2 % 2) 1 ≡ false)
bit-alone b j = (omega (arith, bit_of-lt b j), ne_eqb (bit_of b j / 2 % 2) 1 (λ e. omega (arith, bit_of-lt b j)))

-- n positions of one segment: byte k has their bits, from bit j on
module _ (W G size : ℕ) (h : List ℕ) (p n k j : ℕ) (x : j + n ≤ 8) (y : p % G + n ≤ G) (u : k ≡ bits_place W G p) (v : j ≡ p % G % 8) where
  pub mark-part : (b : ℕ) → k < length h → b ≡ with_bits (at h k) j n → mark_range (heap_ops W G size) h p n ≡ set h k b
  mark-part b l q = rw q (mark-byte W G size h p n k j x y u v l)

  pub marked-part : (b : Bool) → b ≡ bits_set (at h k) j n → range_marked (heap_ops W G size) h p n ≡ b
  marked-part b q = rw q (marked-byte W G size h p n k j x y u v)

  -- m positions from q on come before
  pub marked-after : (q m : ℕ) (a b : Bool) → p ≡ q + m → range_marked (heap_ops W G size) h q m ≡ a → b ≡ bits_set (at h k) j n → range_marked (heap_ops W G size) h q (m + n) ≡ (a && b)
  marked-after q m a b w e f = marked_next (heap_ops W G size) h q m n ∙ rw (e, ← w, marked-part b f)

  -- r positions follow
  module _ (m r : ℕ) (w : m ≡ n + r) where
    pub mark-first : (b : ℕ) → k < length h → b ≡ with_bits (at h k) j n → mark_range (heap_ops W G size) h p m ≡ mark_range (heap_ops W G size) (set h k b) (p + n) r
    mark-first b l q = rw w (mark-next (heap_ops W G size) h p n r ∙ rw (mark-part b l q))

    pub marked-first : (b : Bool) → b ≡ bits_set (at h k) j n → range_marked (heap_ops W G size) h p m ≡ (b && range_marked (heap_ops W G size) h (p + n) r)
    marked-first b q = rw w (marked_next (heap_ops W G size) h p n r ∙ rw (marked-part b q))
