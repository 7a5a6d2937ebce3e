-- `samples_state::store_first` meets its contract. Assumes nothing.
use native.Mathlib.Nat.{sub-zero}
use Rattle.samples_state.proofs.StateLaws.{first_of}
use Rattle.samples_state.proofs.store_first.Goals as goal

pub returns : goal.returns
returns c = first_of _ _ _ _ _ _ _ _ (sub-zero _) c.store_named.ensures
