-- The example of source 000 holds: see specs/DeskSamples.antt. Assumes nothing.
use Rattle.types.specs.Call.{record_block, ask}
use Rattle.specification.proofs.Same.{desk-call}
use Rattle.specification_samples.specs.DeskSamples.{DeskExample}
use Rattle.demands.proofs.Desk as library

pub desk_example : DeskExample
desk_example m s e i =
    let E = library.desk_example m s (rw (desk-call m (record_block 256 40) s) at e) i in
    (rw (desk-call m (record_block 256 40) s, desk-call m (ask 294) _) E.0, rw (desk-call m (record_block 256 40) s, desk-call m (ask 298) _) E.1)
