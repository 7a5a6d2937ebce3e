-- `samples_records::names::reading` meets its contract. Assumes nothing.
use Rattle.samples_records.proofs.NameLaws.{also}
use Rattle.samples_records.proofs.names.reading.Goals as goal

pub returns : goal.returns
returns c =
    also _ _ _ c.or.ensures (also _ _ _ c.or-found-5.ensures (also _ _ _ c.or-found-4.ensures (also _ _ _ c.or-found-3.ensures (also _ _ _ c.or-found-2.ensures c.or-found.ensures))))
