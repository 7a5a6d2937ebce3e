-- `samples_bytes::store_named` meets its contract. Assumes nothing.
use mathlib.Core.Path.{sym, ◌∙◌}
use Rattle.samples_bytes.proofs.GivenLaws.{named_other, named-bytes}
use Rattle.samples_bytes.proofs.store_named.Goals as goal

pub returns-in_err-place : goal.returns-in_err-place
returns-in_err-place c =
    rw c.from_residual.ensures (sym (named_other _ _ _ _ (sym c.after_word.ensures ∙ c.in_err-place.was)))

pub returns : goal.returns
returns c = c.store_at.ensures ∙ sym (named-bytes _ _ _ _ _ (sym c.after_word.ensures ∙ c.in_ok-place.was))
