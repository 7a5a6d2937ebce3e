-- `origins_c::block_monitor_origins_begin` meets its contract. Assumes nothing.
use Rattle.origins_c_lent.proofs.LentLaws.{carried}
use borrow.Author.Rules.{rules}
use Rattle.origins_c.proofs.block_monitor_origins_begin.Goals as goal

pub returns : goal.returns
returns c =
    rw (← c.beginning.ensures)
    (carried _ _ _ c.counted.new.fields _ _ _ _ _ _ _ _ _ c.counted.ensures c.begin.ensures c.map_of.ensures)
