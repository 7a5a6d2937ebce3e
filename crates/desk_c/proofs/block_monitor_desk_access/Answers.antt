-- `desk_c::block_monitor_desk_access` meets its contract. Assumes nothing.
use mathlib.Core.Path.{refl}
use Rattle.map.specs.declared.Form.TheVariants.{Desk}
use Rattle.monitor_c_lent.proofs.LentLaws.{spoken}
use borrow.Author.Rules.{rules}
use Rattle.desk_c.proofs.block_monitor_desk_access.Goals as goal

pub returns : goal.returns
returns c = spoken Desk _ _ c.told.new.fields _ _ _ _ _ _ _ c.told.ensures c.valid.ensures refl
