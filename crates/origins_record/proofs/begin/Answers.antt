-- `origins_record::begin` meets its contract. Assumes nothing.
use Rattle.origins_write_laws.proofs.RecordLaws.{record-told}
use Rattle.origins_record.proofs.begin.Goals as goal

pub counted-requires : goal.counted-requires
counted-requires c = c.begin-begun.ensures.1

pub returns : goal.returns
returns c = record-told _ _ _ _ _ _ _ c.counted.ensures c.begin-begun.ensures.0
