-- `samples_text::taken` meets its contract. Assumes nothing.
use mathlib.Core.Path.{sym}
use Rattle.samples_text.proofs.TextLaws.{between_none, between-some}
use Rattle.samples_text.proofs.taken.Goals as goal

pub returns-then-start-end : goal.returns-then-start-end
returns-then-start-end c = sym (between_none _ _ _ c.if-start-end.true)

pub returns-else-start-end : goal.returns-else-start-end
returns-else-start-end c = sym (between-some _ _ _ c.if-start-end.false)
