-- `samples_text::after_name` meets its contract. Assumes nothing.
use mathlib.Core.Path.{sym, ◌∙◌}
use Rattle.samples_text.proofs.TextLaws.{name-none, name-ends, name-goes-on}
use Rattle.samples_text.proofs.after_name.Goals as goal

pub returns-in_err-end : goal.returns-in_err-end
returns-in_err-end c = c.from_residual.ensures ∙ name-none _ _ _ _ c.after_word.ensures c.in_err-end.was

pub returns-then-ends_by : goal.returns-then-ends_by
returns-then-ends_by c = name-ends _ _ _ _ c.after_word.ensures _ c.in_ok-end.was (sym c.ends_by.ensures ∙ c.if-ends_by.true)

pub returns-else-ends_by : goal.returns-else-ends_by
returns-else-ends_by c = name-goes-on _ _ _ _ c.after_word.ensures _ c.in_ok-end.was (sym c.ends_by.ensures ∙ c.if-ends_by.false)
