-- The written bits of positions of either form: those from a multiple of 8 on to the next lie in one byte. Assumes nothing.
use mathlib.Core.Path.{◌≡◌}
use mathlib.Core.Bool.{Bool, ◌&&◌}
use mathlib.Core.List.{List}
use Prim.Native.Nat.{ℕ, ◌+◌, ◌-◌, ◌*◌, ◌/◌, ◌%◌, ◌<◌, ◌≤◌}
use native.Mathlib.Omega.{arith}
use lib.ListN.{length, set}
use Rattle.number.specs.Bits.{with_bits, bits_set}
use Rattle.number.specs.Parts.{at}
use Rattle.map.specs.declared.Form.{Form}
use Rattle.map.specs.declared.Form.TheVariants.{Player, Desk}
use Rattle.map.specs.FormMap.{number_size, segment_size}
use Rattle.plain.specs.Ops.{mark_range, range_marked}
use Rattle.heap_layout.specs.Reading.{bits_place}
use Rattle.heap_layout.specs.Ops.{heap_ops}
use Rattle.heap_laws.proofs.MarkLaws as laws
use Rattle.heap_laws.proofs.HalfLaws as halves
use Rattle.heap_bits.specs.Bytes.{LieAhead}

-- as far on after whole segments
pub ahead_on : (form : Form) (q m own next : ℕ) → m % 16 ≡ 0 → LieAhead form q own next → LieAhead form (q + m) own next
ahead_on Player q m own next h a = (omega arith, omega arith)
ahead_on Desk q m own next h a = (omega arith, omega arith)

-- the byte is in a shadow of whole segments
pub byte_in : (form : Form) (q k size : ℕ) → size % segment_size form ≡ 0 → q < size → k ≡ bits_place (number_size form) (segment_size form) q → k < size
byte_in Player q k size w h e = omega arith
byte_in Desk q k size w h e = halves.byte-in q k size w h e

-- the byte of any position, from the multiple of 8 below it
pub byte_of : (form : Form) (q own next : ℕ) → LieAhead form (q / 8 * 8) own next → q / 8 * 8 + own ≡ bits_place (number_size form) (segment_size form) q
byte_of Player q own next a = omega arith
byte_of Desk q own next a = omega arith

-- positions that do not pass a multiple of 8 lie in one segment
one_segment : (form : Form) (p n : ℕ) → p % 8 + n ≤ 8 → p % segment_size form + n ≤ segment_size form
one_segment Player p n h = h
one_segment Desk p n h = omega arith

bit_in : (form : Form) (p : ℕ) → p % 8 ≡ p % segment_size form % 8
bit_in Player p = omega arith
bit_in Desk p = omega arith

-- n positions from p on: byte k has their bits, from bit j on
module _ (form : Form) (size : ℕ) (h : List ℕ) (p n k j : ℕ) (x : j + n ≤ 8) (u : k ≡ bits_place (number_size form) (segment_size form) p) (v : j ≡ p % 8) where
  within : p % segment_size form + n ≤ segment_size form
  within = one_segment form p n (rw v at x)

  bit : j ≡ p % segment_size form % 8
  bit = rw v (bit_in form p)

  pub mark_part : (b : ℕ) → k < length h → b ≡ with_bits (at h k) j n → mark_range (heap_ops (number_size form) (segment_size form) size) h p n ≡ set h k b
  mark_part = laws.mark-part (number_size form) (segment_size form) size h p n k j x within u bit

  pub marked_part : (b : Bool) → b ≡ bits_set (at h k) j n → range_marked (heap_ops (number_size form) (segment_size form) size) h p n ≡ b
  marked_part = laws.marked-part (number_size form) (segment_size form) size h p n k j x within u bit

  -- m positions from q on come before
  pub marked_after : (q m : ℕ) (a b : Bool) → p ≡ q + m → range_marked (heap_ops (number_size form) (segment_size form) size) h q m ≡ a → b ≡ bits_set (at h k) j n
      → range_marked (heap_ops (number_size form) (segment_size form) size) h q (m + n) ≡ (a && b)
  marked_after = laws.marked-after (number_size form) (segment_size form) size h p n k j x within u bit

  -- r positions follow
  module _ (m r : ℕ) (w : m ≡ n + r) where
    pub mark_first : (b : ℕ) → k < length h → b ≡ with_bits (at h k) j n
        → mark_range (heap_ops (number_size form) (segment_size form) size) h p m ≡ mark_range (heap_ops (number_size form) (segment_size form) size) (set h k b) (p + n) r
    mark_first = laws.mark-first (number_size form) (segment_size form) size h p n k j x within u bit m r w

    pub marked_first : (b : Bool) → b ≡ bits_set (at h k) j n
        → range_marked (heap_ops (number_size form) (segment_size form) size) h p m ≡ (b && range_marked (heap_ops (number_size form) (segment_size form) size) h (p + n) r)
    marked_first = laws.marked-first (number_size form) (segment_size form) size h p n k j x within u bit m r w
