-- `samples_bytes::store` meets its contract. Assumes nothing.
use mathlib.Core.Path.{refl, sym, ◌∙◌}
use native.Mathlib.Omega.{arith}
use borrow.Author.Rules.{rules}
use Rattle.samples_text.proofs.TextLaws.{fits-not, fits_is}
use Rattle.samples_bytes.proofs.GivenLaws.{bytes-end, bytes-none, bytes-large, bytes-last, bytes_next}
use Rattle.samples_bytes.proofs.store.Goals as goal

pub loop-p-init : goal.loop-p-init
loop-p-init c = (refl, refl)

pub returns-in_err-v : goal.returns-in_err-v
returns-in_err-v c =
    let l = c.loop-p in
    rw c.from_residual.ensures (sym (l.invariant.1 ∙ bytes-none _ _ _ _ (omega arith) (sym c.number_at.ensures ∙ c.in_err-v.was)))

pub returns-in_err-shadow : goal.returns-in_err-shadow
returns-in_err-shadow c =
    let l = c.loop-p in
    let n = sym c.number_at.ensures ∙ c.in_ok-v.was in
    let f = fits-not _ _ _ c.try_from.ensures c.in_err-shadow.ensures.value in
    rw c.from_residual-in_err-shadow.ensures (sym (l.invariant.1 ∙ bytes-large _ _ _ _ (omega arith) _ n (omega arith)))

pub returns-in_default : goal.returns-in_default
returns-in_default c =
    let l = c.loop-p in
    let n = sym c.number_at.ensures ∙ c.in_ok-v.was in
    let f = fits_is _ _ _ _ c.try_from.ensures c.in_ok-shadow.ensures.value in
    sym (l.invariant.1 ∙ bytes-last _ _ l.p l.shadow (omega arith) _ n _ f.1 (omega arith) (sym c.after.ensures ∙ c.in_default.is))

pub loop-p-preserved : goal.loop-p-preserved
loop-p-preserved c =
    let l = c.loop-p in
    let n = sym c.number_at.ensures ∙ c.in_ok-v.was in
    let f = fits_is _ _ _ _ c.try_from.ensures c.in_ok-shadow.ensures.value in
    (search rules, l.invariant.1 ∙ bytes_next _ _ l.p l.shadow (omega arith) _ n _ f.1 (omega arith) _ (sym c.after.ensures ∙ c.in-Some.is))

pub returns : goal.returns
returns c =
    let l = c.loop-p in
    sym (l.invariant.1 ∙ bytes-end _ _ _ _ (omega arith))
