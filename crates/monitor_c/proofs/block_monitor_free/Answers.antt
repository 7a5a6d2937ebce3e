-- `monitor_c::block_monitor_free` meets its contract. Assumes nothing.
use Rattle.map.specs.declared.Form.TheVariants.{Player}
use Rattle.monitor_c_lent.proofs.LentLaws.{spoken}
use borrow.Author.Rules.{rules}
use Rattle.monitor_c.proofs.block_monitor_free.Goals as goal

pub returns : goal.returns
returns c = spoken Player _ _ c.told.new.fields _ _ _ _ _ _ _ c.told.ensures c.free.ensures c.map_of.ensures
