-- What a reading (Addresses.antt) tells, on any shadows, images or not, against the written bits (Alters.antt). Proved in proofs/Readings.antt.
-- Assumes nothing.
use Rattle.std.specs.Prelude.{◌≡◌, Bool, true, false, ℕ, ◌+◌, ◌≤◌, ◌<◌}
use Rattle.map.specs.FormMap.{FormMap}
use Rattle.number.specs.Bits.{bit}
use Rattle.plain.specs.Reading.{block}
use Rattle.shadows.specs.Shadows.{Shadows}
use Rattle.demands.specs.Addresses.{in_heap, reading_at}
use Rattle.demands.specs.Alters.{written_at, literal_at}

-- what every reading that gives a block keeps, on any shadows: "offset = a − base", "If offset ≥ L, no block"; the written bit is that of the
-- address; the block is a literal if bit 1 of the address is set, "bit 1 of the primary byte read; heap blocks always may" be written; and the block
-- fits its area, the heap's with its header
abbrev pub BlocksRead : FormMap → Type 0
BlocksRead m =
    (s : Shadows) (a b l o w : ℕ) (t : Bool) → reading_at m s a ≡ block b l o w t
    → (b + o ≡ a) × (o < l) × (w ≡ written_at m s a) × (bit t ≡ literal_at m s a)
    × (in_heap m a ≡ true → (m.heap_start + m.segment ≤ b) × (b + l ≤ m.heap_start + m.heap_size))
    × (in_heap m a ≡ false → (m.stack_start ≤ b) × (b + l ≤ m.stack_start + m.stack_size))
