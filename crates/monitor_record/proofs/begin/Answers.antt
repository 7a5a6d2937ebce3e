-- `monitor_record::begin` meets its contract: what was recorded is told. Assumes nothing.
use Rattle.monitor_record.proofs.begin.Goals as goal

pub returns : goal.returns
returns c = rw c.settled.ensures c.recorded.ensures
