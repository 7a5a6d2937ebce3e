-- S-8: the facts that the player's form and the desk's have in common, of any number width of four bytes or more and any segment of at least twice that.
-- Each stands in crates/demands/specs, over the generic `call`. What they say to a reader is said over the specification, in Promises.antt, for the two
-- forms. Assumes nothing.
use Rattle.map.specs.FormMap.{FormMap}
use Rattle.demands.specs.Demand1.{RefusedAltersNothing}
use Rattle.demands.specs.Alters.{LengthsKept}
use Rattle.demands.specs.Demand2.{FewBytes, ImageShape, OneImage, AuditAccepts, AuditOnly, AuditRefuses, ReadBack}
use Rattle.demands.specs.Demand3.{WholeRun, NoDamage, ClearedRun, OnEveryImage, StaysPlaced}
use Rattle.demands.specs.Begun.{AnswersOfRecord, RecordThenWritten}
use Rattle.demands.specs.Null.{NullOutside, FreeOfNull}
use Rattle.demands.specs.Literals.{ReadExactly, WriteExactly, LiteralStays, LiteralAnswers, LiteralBytes}
use Rattle.demands.specs.Places.{GapsExactly, PlaceChooses, LargerBudget, PlacedRecorded, OnItsOwnImage}
use Rattle.demands.specs.Removals.{FreeOfStack, RemoveElsewhere, EachItsArea, FreeExactly, RemoveExactly}

pub record Demands (m : FormMap) : Type 0 where
  -- ---- demand 1
  pub refused_alters_nothing : RefusedAltersNothing m
  pub lengths_kept : LengthsKept m
  -- ---- demand 2; a reading looks at two numbers and a byte at most
  pub few_bytes : FewBytes m
  pub image_shape : ImageShape m
  pub one_image : OneImage m
  pub audit_accepts : AuditAccepts m
  pub audit_only : AuditOnly m
  pub audit_refuses : AuditRefuses m
  pub read_back : ReadBack m
  -- ---- demand 3
  pub on_every_image : OnEveryImage m
  pub stays_placed : StaysPlaced m
  pub whole_run : WholeRun m
  pub no_damage : NoDamage m
  pub cleared_run : ClearedRun m
  -- ---- S-1
  pub answers_of_record : AnswersOfRecord m
  pub record_then_written : RecordThenWritten m
  -- ---- S-2
  pub null_outside : NullOutside m
  pub free_of_null : FreeOfNull m
  -- ---- S-5
  pub read_exactly : ReadExactly m
  pub write_exactly : WriteExactly m
  pub literal_stays : LiteralStays m
  pub literal_answers : LiteralAnswers m
  pub literal_bytes : LiteralBytes m
  -- ---- S-6
  pub gaps_exactly : GapsExactly m
  pub place_chooses : PlaceChooses m
  pub larger_budget : LargerBudget m
  pub placed_recorded : PlacedRecorded m
  pub on_its_own_image : OnItsOwnImage m
  -- ---- S-7
  pub free_of_stack : FreeOfStack m
  pub remove_elsewhere : RemoveElsewhere m
  pub each_its_area : EachItsArea m
  pub free_exactly : FreeExactly m
  pub remove_exactly : RemoveExactly m
