-- `samples_state::figures::counter_at` meets its contract. Assumes nothing.
use mathlib.Core.Path.{sym, ◌∙◌}
use Rattle.samples_state.proofs.FigureLaws.{counter-other, counter-is}
use Rattle.samples_state.proofs.figures.counter_at.Goals as goal

pub returns-in_err-start : goal.returns-in_err-start
returns-in_err-start c = c.from_residual.ensures ∙ counter-other _ _ (sym c.after_word.ensures ∙ c.in_err-start.was)

pub returns : goal.returns
returns c = c.long_at.ensures ∙ counter-is _ _ _ (sym c.after_word.ensures ∙ c.in_ok-start.was)
