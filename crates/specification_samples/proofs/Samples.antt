-- The samples hold: the checker computes them over the specification. Assumes nothing.
use mathlib.Core.Path.{refl}
use Rattle.specification.specs.Numbers.{byte_of, word, bit_of, with_bit, of_bits, ones, tab, zeros, over}
use Rattle.specification.specs.Map.{good, right_lengths}
use Rattle.specification.specs.Heap.{heap_byte, read_heap}
use Rattle.specification.specs.Desk as desks
use Rattle.specification.specs.Desk.{desk_byte, read_desk}
use Rattle.specification.specs.Stack.{short_code, piece_of, code_of, primary_byte, piece_byte, secondary_byte, short_length, found, read_long, read_stack}
use Rattle.specification.specs.Readings.{reading}
use Rattle.specification.specs.Calls as calls
use Rattle.specification.specs.Calls.{vacant, stamp, mark_one, mark_all, all_marked, climb}
use Rattle.specification.specs.Place as place
use Rattle.specification.specs.Place.{gaps_from, best}
use Rattle.specification.specs.Blocks.{total}
use Rattle.specification.specs.Image.{all_true, may_stand, given, image}
use Rattle.specification.specs.Audit as audits
use Rattle.specification.specs.Audit.{list_from, same_bytes}
use Rattle.specification.specs.Call.{call}
use Rattle.specification_samples.specs.Samples.{has_bytes, run_holds, all_hold, table, SamplesHold}
use Rattle.specification_samples.specs.EdgeSamples.{edges, begun_written, larger, EdgeSamplesHold}
use Rattle.specification_samples.specs.LiteralSamples.{literals, LiteralSamplesHold}
use Rattle.specification_samples.specs.GivenShadows.{put, all_given}
use Rattle.specification_samples.specs.PlaceSamples.{places, places_in_run, places_at_top, PlaceSamplesHold}
use Rattle.specification_samples.specs.RemovalSamples.{removals, RemovalSamplesHold}
use Rattle.specification_samples.specs.ByteSamples.{numbers, disagreeing}
use Rattle.specification_samples.specs.DamageSamples.{readings, calls_on_damage, DamageSamplesHold}
use Rattle.specification_samples.specs.DeskSamples.{example, desk_runs, desk_given, desk_larger, DeskSamplesHold}

computed : SamplesHold × EdgeSamplesHold × LiteralSamplesHold × PlaceSamplesHold × RemovalSamplesHold × DamageSamplesHold × DeskSamplesHold
unfolding byte_of word bit_of with_bit of_bits ones tab zeros over good right_lengths heap_byte read_heap desks.good desk_byte read_desk short_code piece_of code_of primary_byte piece_byte secondary_byte short_length found read_long read_stack reading vacant stamp mark_one mark_all all_marked climb gaps_from best total all_true may_stand given image list_from same_bytes calls.clear calls.begin calls.free calls.remove calls.written calls.ask calls.valid calls.initialised calls.next place.place audits.audit call has_bytes run_holds all_hold put all_given table edges begun_written larger literals places places_in_run places_at_top removals readings numbers calls_on_damage disagreeing example desk_runs desk_given desk_larger
computed = (refl, (refl, refl, refl), refl, (refl, refl, refl), refl, (refl, refl, refl, refl), (refl, refl, refl, refl))

pub samples_hold : SamplesHold
samples_hold = computed.0

pub edge_samples_hold : EdgeSamplesHold
edge_samples_hold = computed.1

pub literal_samples_hold : LiteralSamplesHold
literal_samples_hold = computed.2

pub place_samples_hold : PlaceSamplesHold
place_samples_hold = computed.3

pub removal_samples_hold : RemovalSamplesHold
removal_samples_hold = computed.4

pub damage_samples_hold : DamageSamplesHold
damage_samples_hold = computed.5

pub desk_samples_hold : DeskSamplesHold
desk_samples_hold = computed.6
