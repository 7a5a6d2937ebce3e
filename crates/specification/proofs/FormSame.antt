-- A heap address under either form, and by the layout with the form's two sizes: readings and written bits. Assumes nothing.
use mathlib.Core.Path.{◌≡◌}
use mathlib.Core.Bool.{true}
use mathlib.Core.List.{List}
use Prim.Native.Nat.{ℕ, ◌+◌, ◌-◌, ◌%◌, ◌<◌}
use native.Mathlib.Omega.{arith}
use Rattle.number.specs.Parts.{at}
use Rattle.number.proofs.TestLaws.{in-facts}
use Rattle.map.specs.declared.Map.{Map}
use Rattle.map.specs.declared.Form as kind
use Rattle.map.specs.declared.Form.TheVariants.{Player, Desk}
use Rattle.map.specs.FormMap.{under, number_size, segment_size}
use Rattle.map.specs.Map.{good_map}
use Rattle.map.proofs.MapLaws.{good-true}
use Rattle.plain.specs.Lift.{reading_up}
use Rattle.heap_layout.specs.Reading.{bits_place, heap_reading}
use Rattle.specification.specs.Map.{heap_end, in_heap}
use Rattle.specification.proofs.Forms.{read_by, bits_by, number_by}
use Rattle.specification.proofs.HeapSame as player
use Rattle.specification.proofs.DeskSame as desk

module _ (m : Map) where
  read_at : (f : kind.Form) (h : List ℕ) (p : ℕ) → good_map (under f m) ≡ true → p < m.heap_size
      → read_by f m h (m.heap_start + p) ≡ reading_up m.heap_start (heap_reading (number_size f) (segment_size f) m.heap_size (at h) p)
  read_at Player h p g l = player.heap-at m p h
  read_at Desk h p g l = desk.desk-at m p h l (good-true (under Desk m) g).heap_end

  bits-at : (f : kind.Form) (p : ℕ) → bits_by f m (m.heap_start + p) - m.heap_start ≡ bits_place (number_size f) (segment_size f) p
  bits-at Player p = player.bits-at m p
  bits-at Desk p = desk.bits-at m p

  bit_at : (f : kind.Form) (p : ℕ) → number_by f m (m.heap_start + p) ≡ p % segment_size f % 8
  bit_at Player p = player.bit_at m p
  bit_at Desk p = desk.bit_at m p

  back : (a : ℕ) → in_heap m a ≡ true → (m.heap_start + (a - m.heap_start) ≡ a) × (a - m.heap_start < m.heap_size)
  back a h = let (l, u) = in-facts m.heap_start (heap_end m) a h in (omega arith, omega arith)

  -- of any address of the heap
  pub read_same : (f : kind.Form) (h : List ℕ) (a : ℕ) → good_map (under f m) ≡ true → in_heap m a ≡ true
      → read_by f m h a ≡ reading_up m.heap_start (heap_reading (number_size f) (segment_size f) m.heap_size (at h) (a - m.heap_start))
  read_same f h a g i = let (e, l) = back a i in rw e at (read_at f h (a - m.heap_start) g l)

  pub bits-same : (f : kind.Form) (a : ℕ) → in_heap m a ≡ true → bits_by f m a - m.heap_start ≡ bits_place (number_size f) (segment_size f) (a - m.heap_start)
  bits-same f a i = let (e, l) = back a i in rw e at (bits-at f (a - m.heap_start))

  pub bit-same : (f : kind.Form) (a : ℕ) → in_heap m a ≡ true → number_by f m a ≡ (a - m.heap_start) % segment_size f % 8
  bit-same f a i = let (e, l) = back a i in rw e at (bit_at f (a - m.heap_start))
