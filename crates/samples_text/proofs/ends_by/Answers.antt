-- `samples_text::ends_by` meets its contract. Assumes nothing.
use mathlib.Core.Path.{sym, ◌∙◌}
use borrow.Author.Tests.{le-leb}
use Rattle.samples_text.proofs.TextLaws.{ends-past, ends-here}
use Rattle.samples_text.proofs.ends_by.Goals as goal

pub returns-then-line-at : goal.returns-then-line-at
returns-then-line-at c = le-leb _ _ c.if-line-at.true ∙ sym (ends-past _ _ _ c.if-line-at.true)

pub returns-else-line-at : goal.returns-else-line-at
returns-else-line-at c = sym (ends-here _ _ _ c.if-line-at.false)
