-- The samples of the calls programs hold: computed. Assumes nothing.
use mathlib.Core.Path.{refl}
use Rattle.number.specs.Little as little
use Rattle.specification.specs.Numbers as numbers
use Rattle.specification.specs.Map as maps
use Rattle.specification.specs.Heap as heap
use Rattle.specification.specs.Stack as stack
use Rattle.specification.specs.Readings as readings
use Rattle.specification.specs.Calls as calls
use Rattle.specification.specs.Call as Plain-Form
use Rattle.specification.specs.Image as images
use Rattle.specification.specs.Audit as audits
use Rattle.specification.specs.Blocks as blocks
use Rattle.specification_origins.specs.Cells as cells
use Rattle.specification_origins.specs.Origins as origins-form
use Rattle.specification_programs.specs.Records.{find}
use Rattle.specification_programs.specs.Lines.{last_digits, line_of}
use Rattle.specification_programs.specs.Programs.{printed}
use Rattle.specification_programs.specs.Text.{text}
use Rattle.specification_programs.specs.Samples.{words}
use Rattle.specification_samples.specs.FileSamples.{taken, too_large, bad, NewMapSamplesHold, decoded, own, RecordSamplesHold, plain_file, origins_file, literal_file, cell_file, removal_file, FilesHold}

pub files_hold : FilesHold
unfolding text words plain_file origins_file literal_file cell_file removal_file find last_digits line_of printed little.bytes_of numbers.byte_of numbers.word numbers.bit_of numbers.with_bit numbers.of_bits numbers.ones numbers.tab numbers.zeros numbers.over maps.good maps.right_lengths heap.heap_byte heap.read_heap stack.short_code stack.piece_of stack.code_of stack.primary_byte stack.piece_byte stack.secondary_byte stack.short_length stack.found stack.read_long stack.read_stack readings.reading calls.vacant calls.stamp calls.begin calls.free calls.remove calls.mark_one calls.mark_all calls.written calls.ask calls.valid calls.climb calls.next Plain-Form.call audits.list_from audits.same_bytes audits.audit images.all_true images.may_stand images.given images.image blocks.total calls.initialised calls.all_marked cells.right_cells cells.without_cells origins-form.call
files_hold = (refl, refl, (refl, refl), refl, (refl, refl))

pub record_samples_hold : RecordSamplesHold
unfolding find decoded own numbers.word
record_samples_hold = (
  (refl, (refl, (refl, (refl, (refl, (refl, (refl, (refl, (refl, (refl, (refl, (refl, (refl, (refl, (refl, (refl, (refl, (refl, (refl, tt))))))))))))))))))),
  (refl, (refl, (refl, tt))),
)

pub new_map_samples_hold : NewMapSamplesHold
unfolding maps.good taken too_large bad
new_map_samples_hold = (
  (λ s. refl, (λ s. refl, (λ s. refl, (λ s. refl, (λ s. refl, (λ s. refl, tt)))))),
  (λ s. refl, (λ s. refl, (λ s. refl, (λ s. refl, (λ s. refl, (λ s. refl, (λ s. refl, (λ s. refl, tt)))))))),
  (λ s. refl, (λ s. refl, (λ s. refl, (λ s. refl, (λ s. refl, (λ s. refl, (λ s. refl, (λ s. refl, (λ s. refl, (λ s. refl, (λ s. refl, tt))))))))))),
  (λ s. refl, (λ s. refl, (λ s. refl, (λ s. refl, (λ s. refl, (λ s. refl, tt)))))),
  (λ s. refl, (λ s. refl, (λ s. refl, (λ s. refl, (λ s. refl, (λ s. refl, (λ s. refl, (λ s. refl, tt)))))))),
  (λ s. refl, (λ s. refl, (λ s. refl, (λ s. refl, (λ s. refl, (λ s. refl, (λ s. refl, (λ s. refl, (λ s. refl, (λ s. refl, (λ s. refl, tt))))))))))),
)
