-- `desk_c::block_monitor_desk_ask` meets its contract. Assumes nothing.
use Rattle.map.specs.declared.Form.TheVariants.{Desk}
use Rattle.monitor_c_lent.proofs.LentLaws.{spoken}
use borrow.Author.Rules.{rules}
use Rattle.desk_c.proofs.block_monitor_desk_ask.Goals as goal

pub returns : goal.returns
returns c = spoken Desk _ _ c.told.new.fields _ _ _ _ _ _ _ c.told.ensures c.ask.ensures c.map_of.ensures
