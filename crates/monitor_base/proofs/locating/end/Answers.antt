-- `monitor_base::locating::end` meets its contract. Assumes nothing.
use mathlib.Core.Path.{◌∙◌}
use Rattle.monitor_base.proofs.LocatingLaws.{start-end}
use borrow.Author.Rules.{rules}
use Rattle.monitor_base.proofs.locating.end.Goals as goal

pub returns : goal.returns
returns c =
    let k = start-end c.args.map c.args.area in
    c.to_position.ensures.0 (rw (c.start_of.ensures, c.end_of.ensures) k) ∙ rw (c.start_of.ensures, c.end_of.ensures)
