-- The samples of the form with origins hold: computed. Assumes nothing.
use mathlib.Core.Path.{refl}
use Rattle.specification.specs.Numbers as numbers
use Rattle.specification.specs.Map as maps
use Rattle.specification.specs.Heap as heap
use Rattle.specification.specs.Stack as stack
use Rattle.specification.specs.Readings as readings
use Rattle.specification.specs.Calls as calls
use Rattle.specification.specs.Call as Plain-Form
use Rattle.specification.specs.Image as images
use Rattle.specification.specs.Audit as audits
use Rattle.specification.specs.Blocks as blocks
use Rattle.specification_origins.specs.Cells as cells
use Rattle.specification_origins.specs.Origins as origins-form
use Rattle.specification_samples.specs.Samples.{has_bytes}
use Rattle.specification_samples.specs.GivenShadows.{put}
use Rattle.specification_samples.specs.OriginsSamples.{run_holds, all_hold, stored, refused, followed, SamplesHold}

pub origins_samples_hold : SamplesHold
unfolding numbers.byte_of numbers.word numbers.bit_of numbers.with_bit numbers.of_bits numbers.ones numbers.tab numbers.zeros numbers.over maps.good maps.right_lengths heap.heap_byte heap.read_heap stack.short_code stack.piece_of stack.code_of stack.primary_byte stack.piece_byte stack.secondary_byte stack.short_length stack.found stack.read_long stack.read_stack readings.reading calls.vacant calls.stamp calls.begin calls.free calls.remove calls.mark_one calls.mark_all calls.written calls.ask calls.valid calls.climb calls.next Plain-Form.call audits.list_from audits.same_bytes audits.audit images.all_true images.may_stand images.given images.image blocks.total calls.initialised calls.all_marked cells.right_cells cells.without_cells origins-form.call calls.clear put has_bytes run_holds all_hold stored refused followed
origins_samples_hold = (refl, refl, refl)
