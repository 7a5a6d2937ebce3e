-- The samples hold, computed. Assumes nothing.
use mathlib.Core.Path.{◌≡◌, refl, ◌∙◌}
use mathlib.Core.List.{List}
use Prim.Native.Nat.{ℕ, suc, ◌<◌}
use native.Mathlib.Omega.{arith}
use Rattle.number.specs.Little as little
use Rattle.calls_format.specs.Lines.{digits}
use Rattle.calls_format.proofs.LineLaws.{decimal-short}
use Rattle.specification.specs.Numbers as numbers
use Rattle.specification.specs.Map as maps
use Rattle.specification.specs.Heap as heap
use Rattle.specification.specs.Stack as stack
use Rattle.specification.specs.Readings as readings
use Rattle.specification.specs.Calls as calls
use Rattle.specification.specs.Call as Plain-Form
use Rattle.specification.specs.Image as images
use Rattle.specification.specs.Audit as audits
use Rattle.specification.specs.Blocks as blocks
use Rattle.specification_origins.specs.Cells as cells
use Rattle.specification_origins.specs.Origins as origins-form
use Rattle.specification_programs.specs.Records.{find}
use Rattle.specification_programs.specs.Lines.{last_digits, decimal, line_of}
use Rattle.specification_programs.specs.Programs.{printed}
use Rattle.specification_programs.specs.Text.{text}
use Rattle.specification_programs.specs.Samples.{words, small, mapless, unknown_file, long_file, short_file, wide_file, point_file, low_file, high_file, pointers, worked, Both, high_text, SamplesHold}
use Rattle.specification_programs.proofs.LineSame.{digits_same}

-- ---- a file with large numbers, which `decimal` as it is written takes too long for

short : (v : ℕ) (t : List ℕ) → v < 10000000000 → digits 10 v ≡ t → decimal v ≡ t
short v t h e = digits_same (suc v) v ∙ decimal-short v h ∙ e

in-high_text : (decimal 0 ≡ text "0") × (decimal 1 ≡ text "1") × (decimal 2 ≡ text "2") × (decimal 4 ≡ text "4") × (decimal 5 ≡ text "5") × (decimal 9 ≡ text "9")
    × (decimal 20 ≡ text "20") × (decimal 55 ≡ text "55") × (decimal 56 ≡ text "56") × (decimal 100008 ≡ text "100008") × (decimal 4294967232 ≡ text "4294967232")
unfolding text digits last_digits
in-high_text = (refl, refl, refl, refl, refl, refl, refl, refl, refl, refl, short 4294967232 _ (omega arith) refl)

high-holds : Both high_file high_text
unfolding text words high_file find line_of printed little.bytes_of numbers.byte_of numbers.word numbers.bit_of numbers.with_bit numbers.of_bits numbers.ones numbers.tab numbers.zeros numbers.over maps.good maps.right_lengths heap.heap_byte heap.read_heap readings.reading calls.vacant calls.stamp calls.begin calls.free calls.remove calls.mark_one calls.mark_all calls.written calls.ask calls.valid calls.climb calls.next Plain-Form.call blocks.total cells.right_cells cells.without_cells origins-form.call
high-holds =
    let (n0, n1, n2, n4, n5, n9, n20, n55, n56, n100008, n4294967232) = in-high_text in
    (rw (n0, n1, n2, n4, n5, n9, n20, n55, n56, n100008, n4294967232), rw (n0, n1, n2, n4, n5, n9, n20, n55, n56, n100008, n4294967232))

pub samples_hold : SamplesHold
unfolding text words small mapless unknown_file long_file short_file wide_file point_file low_file high_file pointers worked find last_digits line_of printed little.bytes_of numbers.byte_of numbers.word numbers.bit_of numbers.with_bit numbers.of_bits numbers.ones numbers.tab numbers.zeros numbers.over maps.good maps.right_lengths heap.heap_byte heap.read_heap stack.short_code stack.piece_of stack.code_of stack.primary_byte stack.piece_byte stack.secondary_byte stack.short_length stack.found stack.read_long stack.read_stack readings.reading calls.vacant calls.stamp calls.begin calls.free calls.remove calls.mark_one calls.mark_all calls.written calls.ask calls.valid calls.climb calls.next Plain-Form.call audits.list_from audits.same_bytes audits.audit images.all_true images.may_stand images.given images.image blocks.total cells.right_cells cells.without_cells origins-form.call
samples_hold = (
  (refl, refl),
  (refl, refl),
  refl,
  refl,
  (refl, refl),
  (refl, refl),
  (refl, refl),
  (refl, refl),
  refl,
  refl,
  (refl, refl),
  high-holds,
  refl,
  refl,
)
