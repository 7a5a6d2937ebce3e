-- `samples_records::put_record` meets its contract. Assumes nothing.
use Rattle.samples_records.proofs.RecordLaws.{head-put}
use Rattle.samples_records.proofs.put_record.Goals as goal

pub returns : goal.returns
returns c =
    let f = c.put_fields-record.ensures in
    (f.0, head-put _ _ _ _ _ _ f.0 f.2 c.put_at.ensures)
