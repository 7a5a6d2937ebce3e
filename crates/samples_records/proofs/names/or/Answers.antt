-- `samples_records::names::or` meets its contract. Assumes nothing.
use mathlib.Core.Path.{sym, ◌∙◌}
use Rattle.samples_records.proofs.NameLaws.{or-found, or-other, or-here}
use Rattle.samples_records.proofs.names.or.Goals as goal

pub returns-then-is_some : goal.returns-then-is_some
returns-then-is_some c = or-found _ _ _ _ c.if-is_some.ensures

pub returns-in_err-end : goal.returns-in_err-end
returns-in_err-end c = c.from_residual.ensures ∙ or-other _ _ _ _ c.if-is_some.ensures (sym c.after_name.ensures ∙ c.in_err-end.was)

pub returns : goal.returns
returns c = or-here _ _ _ _ c.if-is_some.ensures _ (sym c.after_name.ensures ∙ c.in_ok-end.was)
