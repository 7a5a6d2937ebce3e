-- Every promise, proved: see specs/Promises.antt. Assumes nothing.
use Rattle.map.specs.declared.Form.TheVariants.{Player, Desk}
use Rattle.promises.specs.Promises.{Promises}
use Rattle.specification_samples.proofs.Samples.{samples_hold, edge_samples_hold, literal_samples_hold, place_samples_hold, removal_samples_hold, damage_samples_hold, desk_samples_hold}
use Rattle.specification_samples.proofs.MapSamples.{map_samples_hold, desk_map_samples_hold}
use Rattle.specification_samples.proofs.DeskExample.{desk_example}
use Rattle.specification_samples.proofs.OriginsSamples.{origins_samples_hold}
use Rattle.specification_samples.proofs.FileSamples.{files_hold, record_samples_hold, new_map_samples_hold}
use Rattle.specification_programs.proofs.Programs.{runs_output}
use Rattle.specification_programs.proofs.Samples as program-samples
use Rattle.promises.proofs.Demands.{demands}
use Rattle.promises.proofs.ProgramVotes.{program-vote}
use Rattle.promises.proofs.FirstVote.{first-vote}
use Rattle.promises.proofs.SecondVote.{player_second, desk_second}
use Rattle.promises.proofs.ThirdVote.{third-vote}
use Rattle.promises.proofs.RequestVotes.{written-from-start, free_of_null, literals, places, removals}
use Rattle.promises.proofs.OriginsVotes.{origins-first-vote, origins-third-vote}
use Rattle.promises.proofs.PointerVote.{pointer-vote}

pub promises : Promises
promises =
    record {
      player_first = first-vote Player;
      player_second = player_second;
      player_third = third-vote Player;
      desk_first = first-vote Desk;
      desk_second = desk_second;
      desk_third = third-vote Desk;
      every_form = demands;
      player_written = written-from-start Player;
      player_null = free_of_null Player;
      player_literals = literals Player;
      player_places = places Player;
      player_removals = removals Player;
      desk_written = written-from-start Desk;
      desk_null = free_of_null Desk;
      desk_literals = literals Desk;
      desk_places = places Desk;
      desk_removals = removals Desk;
      origins_first = origins-first-vote;
      origins_pointers = λ m. pointer-vote m (origins-first-vote m);
      origins_third = origins-third-vote;
      origins_samples_hold = origins_samples_hold;
      samples_hold = samples_hold;
      edge_samples_hold = edge_samples_hold;
      literal_samples_hold = literal_samples_hold;
      place_samples_hold = place_samples_hold;
      removal_samples_hold = removal_samples_hold;
      map_samples_hold = map_samples_hold;
      damage_samples_hold = damage_samples_hold;
      desk_example = desk_example;
      desk_samples_hold = desk_samples_hold;
      desk_map_samples_hold = desk_map_samples_hold;
      programs = program-vote;
      runs_output = runs_output;
      program_samples_hold = program-samples.samples_hold;
      new_map_samples_hold = new_map_samples_hold;
      record_samples_hold = record_samples_hold;
      files_hold = files_hold;
    }
