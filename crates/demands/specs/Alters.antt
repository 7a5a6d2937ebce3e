-- What every call leaves of the shadows' lengths and, on any shadows, images or not, every byte after an accepted recording. `BytesStart` is proved in
-- proofs/Starts.antt, the others in proofs/Alters.antt. Assumes nothing.
use Rattle.std.specs.Prelude.{◌≡◌, Bool, cond, not, ◌&&◌, [], ◌∷◌, ℕ, ◌+◌, ◌*◌, ◌-◌, ◌/◌, ◌%◌, ◌≤◌, ◌<◌, length}
use Rattle.number.specs.Bits.{bit_of}
use Rattle.number.specs.Parts.{at, in_part}
use Rattle.map.specs.FormMap.{FormMap}
use Rattle.types.specs.declared.Beginning.{Beginning}
use Rattle.plain.specs.Areas.{segments}
use Rattle.plain.specs.Block.{begun}
use Rattle.plain.specs.Call.{Call, begin, record_block, record_written, record_literal}
use Rattle.shadows.specs.Shadows.{Shadows, Place, heap, primary, secondary, byte_at, image}
use Rattle.monitor_base.specs.Calls.{call}
use Rattle.demands.specs.Addresses.{in_heap, bit_position}
use Rattle.demands.specs.Demand1.{number_of}

-- every call, accepted or refused, leaves each shadow as long as it was
abbrev pub LengthsKept : FormMap → Type 0
LengthsKept m =
    (c : Call) (s : Shadows)
    → (length (call m c s).0.0 ≡ length s.0) × (length (call m c s).0.1.0 ≡ length s.1.0) × (length (call m c s).0.1.1 ≡ length s.1.1)

-- the byte is one of the place of a block: "header and segments; primary and secondary of the range"
abbrev pub in_place : FormMap → (base length : ℕ) → Place → Bool
in_place m b l (heap q) = in_heap m b && in_part (b - m.heap_start - m.segment) (m.segment + segments m.segment l * m.segment) q
in_place m b l (primary q) = not (in_heap m b) && in_part (b - m.stack_start) l q
in_place m b l (secondary q) = not (in_heap m b) && in_part (b - m.stack_start) l q

-- "record (base, length)": the bytes of the place become those that the layout gives for the block as it begins, and no other byte is altered
abbrev pub RecordStamps : FormMap → Type 0
RecordStamps m =
    (h : Beginning) (b l : ℕ) (s : Shadows) → number_of m (begin h b l) s ≡ 0 → (q : Place)
    → byte_at (call m (begin h b l) s).0 q ≡ cond (in_place m b l q) (byte_at (image m (begun h b l ∷ [])) q) (byte_at s q)

-- the written bit of an address: in the heap bit j of byte W + k of the segment for its byte 8 k + j (`bit_position`), in the stack bit 0 of the primary
-- byte
abbrev pub written_at : FormMap → Shadows → (address : ℕ) → ℕ
written_at m s x =
    cond (in_heap m x) (bit_of (at s.0 (bit_position m (x - m.heap_start))) ((x - m.heap_start) % m.segment % 8)) (at s.1.0 (x - m.stack_start) % 2)

-- bit 1 of an address: that of its primary byte in the stack; the heap has none, "heap blocks always may" be written
abbrev pub literal_at : FormMap → Shadows → (address : ℕ) → ℕ
literal_at m s x = cond (in_heap m x) 0 (at s.1.0 (x - m.stack_start) / 2 % 2)

-- record: "All bytes start unwritten"; S-1: "a block whose bytes all count as written"; S-5: "all written, bit 1 of each primary byte set": where
-- it is accepted, the written bit and bit 1 of each byte of the block are 0 and 0 after the first, 1 and 0 after the second, 1 and 1 after the third
abbrev pub BytesStart : FormMap → Type 0
BytesStart m =
    (b l : ℕ) (s : Shadows) (x : ℕ) → b ≤ x → x < b + l
    → (number_of m (record_block b l) s ≡ 0
    → (written_at m (call m (record_block b l) s).0 x ≡ 0) × (literal_at m (call m (record_block b l) s).0 x ≡ 0))
    × (number_of m (record_written b l) s ≡ 0
    → (written_at m (call m (record_written b l) s).0 x ≡ 1) × (literal_at m (call m (record_written b l) s).0 x ≡ 0))
    × (number_of m (record_literal b l) s ≡ 0
    → (written_at m (call m (record_literal b l) s).0 x ≡ 1) × (literal_at m (call m (record_literal b l) s).0 x ≡ 1))
