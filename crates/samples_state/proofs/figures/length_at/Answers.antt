-- `samples_state::figures::length_at` meets its contract. Assumes nothing.
use mathlib.Core.Path.{sym, ◌∙◌}
use Rattle.samples_state.proofs.FigureLaws.{length-other, length_none, length-large, length-is}
use Rattle.samples_state.proofs.figures.length_at.Goals as goal

pub returns-in_err-start : goal.returns-in_err-start
returns-in_err-start c =
    rw c.from_residual.ensures (length-other _ _ _ (sym c.after_word.ensures ∙ c.in_err-start.was), tt)

pub returns-in_err-length : goal.returns-in_err-length
returns-in_err-length c =
    let s = sym c.after_word.ensures ∙ c.in_ok-start.was in
    rw c.from_residual-in_err-length.ensures (length_none _ _ _ _ s (sym c.number_at.ensures ∙ c.in_err-length.was), tt)

pub returns-then-length-gt136 : goal.returns-then-length-gt136
returns-then-length-gt136 c =
    let s = sym c.after_word.ensures ∙ c.in_ok-start.was in
    let n = sym c.number_at.ensures ∙ c.in_ok-length.was in
    (length-large _ _ _ _ s _ n c.if-length-gt136.true, tt)

pub returns : goal.returns
returns c =
    let s = sym c.after_word.ensures ∙ c.in_ok-start.was in
    let n = sym c.number_at.ensures ∙ c.in_ok-length.was in
    (length-is _ _ _ _ s _ n c.if-length-gt136.false, c.if-length-gt136.false)
