-- `samples_bytes::store_all` meets its contract. Assumes nothing.
use mathlib.Core.Path.{◌≡◌, refl, sym, ◌∙◌}
use Prim.Native.Nat.{suc, ◌+◌, ◌-◌}
use native.Mathlib.Omega.{arith}
use Rattle.samples_bytes.proofs.GivenLaws.{all_end, all-call, all-close, all-other, all-next}
use borrow.Author.Rules.{rules}
use Rattle.samples_bytes.proofs.store_all.Goals as goal

pub loop-init : goal.loop-init
loop-init c = (search rules, refl)

pub returns-in-Some : goal.returns-in-Some
returns-in-Some c =
    let l = c.loop in
    let z : 4096 - l.counter ≡ suc (4096 - (l.counter + 1)) = omega arith in
    sym (l.invariant.1 ∙ all-call _ _ z _ _ _ _ _ _ c.skip_spaces-start.ensures _ (sym c.after.ensures ∙ c.in-Some.is))

pub returns-then-start-place : goal.returns-then-start-place
returns-then-start-place c =
    let l = c.loop in
    let z : 4096 - l.counter ≡ suc (4096 - (l.counter + 1)) = omega arith in
    sym (l.invariant.1 ∙ all-close _ _ z _ _ _ _ _ _ c.skip_spaces-start.ensures (sym c.after.ensures ∙ c.in_default.is) c.if-start-place.true)

pub returns-in_err-place : goal.returns-in_err-place
returns-in_err-place c =
    let l = c.loop in
    let z : 4096 - l.counter ≡ suc (4096 - (l.counter + 1)) = omega arith in
    let a = sym c.after.ensures ∙ c.in_default.is in
    rw c.from_residual.ensures
    (sym (l.invariant.1 ∙ all-other _ _ z _ _ _ _ _ _ c.skip_spaces-start.ensures a c.if-start-place.false _ _ _ _ c.store_any.ensures c.in_err-place.was))

pub loop-preserved : goal.loop-preserved
loop-preserved c =
    let l = c.loop in
    let z : 4096 - l.counter ≡ suc (4096 - (l.counter + 1)) = omega arith in
    let a = sym c.after.ensures ∙ c.in_default.is in
    (search rules, l.invariant.1 ∙ all-next _ _ z _ _ _ _ _ _ c.skip_spaces-start.ensures a c.if-start-place.false _ _ _ _ c.store_any.ensures _ c.in_ok-place.was)

pub returns : goal.returns
returns c =
    let l = c.loop in
    sym (l.invariant.1 ∙ all_end _ _ _ _ _ _ (search rules))
