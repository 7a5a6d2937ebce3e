-- What the forms have in common, proved: see specs/Demands.antt. Assumes nothing.
use Rattle.map.specs.FormMap.{FormMap}
use Rattle.promises.specs.Demands.{Demands}
use Rattle.demands.proofs.Demand1.{refused_alters_nothing}
use Rattle.demands.proofs.Alters.{lengths_kept}
use Rattle.demands.proofs.Demand2.{few_bytes, image_shape, one_image, audit_accepts, audit_only, audit_refuses, read_back}
use Rattle.demands.proofs.Demand3.{on_every_image, stays_placed, whole_run, no_damage, cleared_run}
use Rattle.demands.proofs.Begun.{answers_of_record, record_then_written}
use Rattle.demands.proofs.Null.{null_outside, free_of_null}
use Rattle.demands.proofs.Literals.{read_exactly, write_exactly, literal_stays}
use Rattle.demands.proofs.LiteralBegun.{literal_answers, literal_bytes}
use Rattle.demands.proofs.Places.{gaps_exactly, place_chooses, larger_budget, placed_recorded, on_its_own_image}
use Rattle.demands.proofs.Removals.{free_of_stack, remove_elsewhere, each_its_area, free_exactly, remove_exactly}

pub demands : (m : FormMap) → Demands m
demands m =
    record {
      refused_alters_nothing = refused_alters_nothing m;
      lengths_kept = lengths_kept m;
      few_bytes = few_bytes m;
      image_shape = image_shape m;
      one_image = one_image m;
      audit_accepts = audit_accepts m;
      audit_only = audit_only m;
      audit_refuses = audit_refuses m;
      read_back = read_back m;
      on_every_image = on_every_image m;
      stays_placed = stays_placed m;
      whole_run = whole_run m;
      no_damage = no_damage m;
      cleared_run = cleared_run m;
      answers_of_record = answers_of_record m;
      record_then_written = record_then_written m;
      null_outside = null_outside m;
      free_of_null = free_of_null m;
      read_exactly = read_exactly m;
      write_exactly = write_exactly m;
      literal_stays = literal_stays m;
      literal_answers = literal_answers m;
      literal_bytes = literal_bytes m;
      gaps_exactly = gaps_exactly m;
      place_chooses = place_chooses m;
      larger_budget = larger_budget m;
      placed_recorded = placed_recorded m;
      on_its_own_image = on_its_own_image m;
      free_of_stack = free_of_stack m;
      remove_elsewhere = remove_elsewhere m;
      each_its_area = each_its_area m;
      free_exactly = free_exactly m;
      remove_exactly = remove_exactly m;
    }
