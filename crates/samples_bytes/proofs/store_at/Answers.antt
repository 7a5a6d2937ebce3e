-- `samples_bytes::store_at` meets its contract. Assumes nothing.
use mathlib.Core.Path.{sym, ◌∙◌}
use Rattle.samples_bytes.proofs.GivenLaws.{at_none, at_bare, at-bytes}
use Rattle.samples_bytes.proofs.store_at.Goals as goal

pub returns-in_err-position : goal.returns-in_err-position
returns-in_err-position c =
    rw c.from_residual.ensures (sym (at_none _ _ _ (sym c.number_at.ensures ∙ c.in_err-position.was)))

pub returns-in_err-start : goal.returns-in_err-start
returns-in_err-start c =
    let n = sym c.number_at.ensures ∙ c.in_ok-position.was in
    rw c.from_residual-in_err-start.ensures (sym (at_bare _ _ _ _ n (sym c.after.ensures ∙ c.in_err-start.was)))

pub returns : goal.returns
returns c =
    let n = sym c.number_at.ensures ∙ c.in_ok-position.was in
    c.store.ensures ∙ sym (at-bytes _ _ _ _ n _ (sym c.after.ensures ∙ c.in_ok-start.was))
