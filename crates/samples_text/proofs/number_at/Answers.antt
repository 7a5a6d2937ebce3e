-- `samples_text::number_at` meets its contract. Assumes nothing.
use mathlib.Core.Path.{◌∙◌}
use native.Mathlib.Omega.{arith}
use Rattle.samples_text.proofs.TextLaws.{fits-not, fits_is, number-none, number_short, number-large}
use Rattle.samples_text.proofs.number_at.Goals as goal

pub returns-in_err-value : goal.returns-in_err-value
returns-in_err-value c = c.from_residual.ensures ∙ number-none _ _ _ c.long_at.ensures c.in_err-value.was

pub returns-in_err-ok : goal.returns-in_err-ok
returns-in_err-ok c =
    let n = fits-not _ _ _ c.try_from.ensures c.in_err-ok.ensures.value in
    c.from_residual-in_err-ok.ensures ∙ number-large _ _ _ c.long_at.ensures _ c.in_ok-value.was (omega arith)

pub returns : goal.returns
returns c =
    let f = fits_is _ _ _ _ c.try_from.ensures c.in_ok-ok.ensures.value in
    number_short _ _ _ c.long_at.ensures _ c.in_ok-value.was _ f.1 (omega arith)
