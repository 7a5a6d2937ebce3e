-- `origins_c::block_monitor_origins_initialised` meets its contract. Assumes nothing.
use Rattle.origins_c_lent.proofs.LentLaws.{spoken}
use borrow.Author.Rules.{rules}
use Rattle.origins_c.proofs.block_monitor_origins_initialised.Goals as goal

pub returns : goal.returns
returns c = spoken _ _ c.told.new.fields _ _ _ _ _ _ _ _ _ _ _ _ _ c.told.ensures c.initialised.ensures c.map_of.ensures
