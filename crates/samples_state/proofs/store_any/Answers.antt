-- `samples_state::store_any` meets its contract. Assumes nothing.
use Rattle.samples_state.proofs.StateLaws.{any_of}
use Rattle.samples_state.proofs.store_any.Goals as goal

pub returns : goal.returns
returns c =
    any_of _ _ _ _ _ _ _ _ _ _ _ _ _ _ _ _ _ _ _ _ _ _ c.store_first-h.ensures c.store_first-p.ensures c.store_first-s.ensures c.store_first-hc.ensures c.store_first-sc.ensures
    c.or.ensures c.or-2.ensures c.or-3.ensures c.or-4.ensures
