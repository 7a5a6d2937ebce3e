-- `samples_records::names::name_at` meets its contract. Assumes nothing.
use Rattle.samples_records.proofs.NameLaws.{called}
use Rattle.samples_records.proofs.names.name_at.Goals as goal

pub returns : goal.returns
returns c = called _ _ _ _ _ c.changing.ensures c.reading.ensures c.pointing.ensures
