-- `samples_bytes::store_any` meets its contract. Assumes nothing.
use Rattle.samples_bytes.proofs.GivenLaws.{any_of}
use Rattle.samples_bytes.proofs.store_any.Goals as goal

pub returns : goal.returns
returns c =
    any_of _ _ _ _ _ _ _ _ _ _ _ _ _ c.store_named-in_heap.ensures c.store_named-in_primary.ensures c.store_named-in_secondary.ensures
    c.or.ensures c.or-2.ensures
