-- The two forms of the heap, chosen as the library chooses: by its `Form`. Assumes nothing.
use mathlib.Core.Bool.{Bool}
use mathlib.Core.List.{List}
use Prim.Native.Nat.{ℕ}
use Rattle.map.specs.declared.Map.{Map}
use Rattle.map.specs.declared.Form as kind
use Rattle.map.specs.declared.Form.TheVariants.{Player, Desk}
use Rattle.map.specs.FormMap.{segment_size}
use Rattle.plain.specs.Block.{Block}
use Rattle.plain.specs.Reading.{Reading}
use Rattle.specification.specs.Form.{Form}
use Rattle.specification.specs.Map as map
use Rattle.specification.specs.Heap as heap
use Rattle.specification.specs.Desk as desk

abbrev pub good_by : kind.Form → Map → Bool
good_by Player = map.good
good_by Desk = desk.good

abbrev pub byte_by : kind.Form → Block → ℕ → ℕ
byte_by Player = heap.heap_byte
byte_by Desk = desk.desk_byte

abbrev pub read_by : kind.Form → Map → List ℕ → ℕ → Reading
read_by Player = heap.read_heap
read_by Desk = desk.read_desk

abbrev pub bits_by : kind.Form → Map → ℕ → ℕ
bits_by Player = heap.bits_at
bits_by Desk = desk.bits_at

abbrev pub number_by : kind.Form → Map → ℕ → ℕ
number_by Player = heap.bit_number
number_by Desk = desk.bit_number

-- `form Player` is `player`, `form Desk` is `desk`
abbrev pub form : kind.Form → Form
form f = record { good = good_by f; segment = segment_size f; byte = byte_by f; read = read_by f; bits_at = bits_by f; bit_number = number_by f }
