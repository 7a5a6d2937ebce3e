-- Everything that is promised of the libraries and of the calls programs, over the specification (crates/specification, specification_origins,
-- specification_programs). `proofs/Promises.antt` proves this one type. That the code does what is said here is the contract of each exported function
-- (crates/monitor_c, desk_c, origins_c), of `step` of each library and of each program's turn and whole run, which cite the same definitions. Assumes
-- nothing.
use Rattle.map.specs.FormMap.{FormMap}
use Rattle.types.specs.Map.{Map}
use Rattle.specification.specs.Heap.{player}
use Rattle.specification.specs.Desk.{desk}
use Rattle.specification.specs.Looks.{player_looks, desk_looks}
use Rattle.specification.specs.Votes.{FirstVote, SecondVote, ThirdVote}
use Rattle.specification.specs.Requests.{WrittenFromStart, FreeOfNull, Literals, Places, Removals}
use Rattle.specification_origins.specs.Votes as origins
use Rattle.specification_samples.specs.Samples.{SamplesHold}
use Rattle.specification_samples.specs.EdgeSamples.{EdgeSamplesHold}
use Rattle.specification_samples.specs.LiteralSamples.{LiteralSamplesHold}
use Rattle.specification_samples.specs.PlaceSamples.{PlaceSamplesHold}
use Rattle.specification_samples.specs.RemovalSamples.{RemovalSamplesHold}
use Rattle.specification_samples.specs.MapSamples.{MapSamplesHold}
use Rattle.specification_samples.specs.DamageSamples.{DamageSamplesHold}
use Rattle.specification_samples.specs.DeskSamples.{DeskExample, DeskSamplesHold, DeskMapSamplesHold}
use Rattle.specification_samples.specs.OriginsSamples as origins-samples
use Rattle.specification_samples.specs.FileSamples.{NewMapSamplesHold, RecordSamplesHold, FilesHold}
use Rattle.specification_programs.specs.Votes.{ProgramVote}
use Rattle.specification_programs.specs.Same.{RunsOutput}
use Rattle.specification_programs.specs.Samples as program-samples
use Rattle.promises.specs.Demands.{Demands}

pub record Promises : Type 0 where
  -- ---- the three demands (specification, Votes.antt): of the player, whose readings look at nine bytes at most, and of the desk (S-8), at seventeen
  pub player_first : (m : Map) → FirstVote player m
  pub player_second : (m : Map) → SecondVote 9 player_looks player m
  pub player_third : (m : Map) → ThirdVote player m
  pub desk_first : (m : Map) → FirstVote desk m
  pub desk_second : (m : Map) → SecondVote 17 desk_looks desk m
  pub desk_third : (m : Map) → ThirdVote desk m
  -- S-8: for any number width of four bytes or more and any segment of at least twice that, over the generic definitions (Demands.antt)
  pub every_form : (m : FormMap) → Demands m
  -- ---- what the requests promise of their own (specification, Requests.antt)
  pub player_written : (m : Map) → WrittenFromStart player m
  pub player_null : (m : Map) → FreeOfNull player m
  pub player_literals : (m : Map) → Literals player m
  pub player_places : (m : Map) → Places player m
  pub player_removals : (m : Map) → Removals player m
  pub desk_written : (m : Map) → WrittenFromStart desk m
  pub desk_null : (m : Map) → FreeOfNull desk m
  pub desk_literals : (m : Map) → Literals desk m
  pub desk_places : (m : Map) → Places desk m
  pub desk_removals : (m : Map) → Removals desk m
  -- ---- S-4: the form with origins (specification_origins, Votes.antt)
  pub origins_first : (m : Map) → origins.FirstVote m
  pub origins_pointers : (m : Map) → origins.PointerVote m
  pub origins_third : (m : Map) → origins.ThirdVote m
  -- samples: the first counter, the bytes of a number, numbers at their edges, runs
  pub origins_samples_hold : origins-samples.SamplesHold
  -- ---- samples (specification_samples, in the file that the name says)

  -- the marked samples of document 01, and its worked example
  pub samples_hold : SamplesHold
  -- the edges of what map and arguments decide, blocks that begin written, and numbers above 255
  pub edge_samples_hold : EdgeSamplesHold
  -- literals: their bytes, and what each call makes of them
  pub literal_samples_hold : LiteralSamplesHold
  -- place: the choice, the count, the surplus, every byte of a segment, numbers of 32 bits
  pub place_samples_hold : PlaceSamplesHold
  -- free and remove in both areas
  pub removal_samples_hold : RemovalSamplesHold
  -- each rule of a map broken alone and at its edge, and each length of a shadow
  pub map_samples_hold : MapSamplesHold
  -- each condition under which a reading is damaged, every byte of the numbers, what each call makes of damage, and bytes that do not agree
  pub damage_samples_hold : DamageSamplesHold
  -- S-8: the example of source 000, on any shadows and under any map that hold it
  pub desk_example : DeskExample
  -- S-8: header and bits byte for byte, whole segments, 4 and 5, damage by each byte of a number, marks over both bytes of bits, every call
  pub desk_samples_hold : DeskSamplesHold
  -- S-8: each rule of a desk's map broken alone and at its edge
  pub desk_map_samples_hold : DeskMapSamplesHold
  -- ---- the calls programs (specification_programs, Votes.antt and Same.antt)

  -- for every list of records, maps among them, answers and everything that is kept are the plain list's, and none is 8; so every file prints what it
  -- prints on the plain list
  pub programs : ProgramVote
  -- for every chain of turns from the first state that ends with its output open: what left the buffer of lines, and what waits at the end, is the output
  -- for the bytes that came into the window, and any that were not read
  pub runs_output : RunsOutput
  -- samples (specification_programs, Samples.antt; specification_samples, FileSamples.antt): files cut at each byte, what follows an undecodable record,
  -- numbers of one to ten digits; maps at the edges of the sizes, records, a line of every kind
  pub program_samples_hold : program-samples.SamplesHold
  pub new_map_samples_hold : NewMapSamplesHold
  pub record_samples_hold : RecordSamplesHold
  pub files_hold : FilesHold
