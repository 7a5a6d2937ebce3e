-- `samples_text::after` meets its contract. Assumes nothing.
use mathlib.Core.Path.{sym}
use Rattle.samples_text.proofs.TextLaws.{after-past, after-other, after-here}
use Rattle.samples_text.proofs.after.Goals as goal
use Rattle.samples_text.proofs.after.Goals.{else-at-line-via-then-at-line+else-line-at, else-at-line-via-else-at-line}

pub returns-then-line-at : goal.returns-then-line-at
returns-then-line-at c = sym (after-here _ _ _ c.if-at-line.true c.if-line-at.true)

pub returns-else-at-line : goal.returns-else-at-line
returns-else-at-line c =
    elim c.else-at-line.branch [
      | else-at-line-via-then-at-line+else-line-at w ↦ sym (after-other _ _ _ w.if-at-line.true w.if-line-at.false)
      | else-at-line-via-else-at-line w ↦ sym (after-past _ _ _ w.if-at-line.false)
    ]
