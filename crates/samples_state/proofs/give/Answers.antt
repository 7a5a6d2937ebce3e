-- `samples_state::give` meets its contract. Assumes nothing.
use mathlib.Core.Path.{◌≡◌, refl, sym, ◌∙◌}
use Prim.Native.Nat.{suc, ◌+◌, ◌-◌}
use native.Mathlib.Omega.{arith}
use Rattle.samples_state.proofs.StateLaws.{all_end, all-call, all-close, all-other, all-next}
use borrow.Author.Rules.{rules}
use Rattle.samples_state.proofs.give.Goals as goal

pub loop-init : goal.loop-init
loop-init c = (search rules, refl, search rules)

pub returns-in-Some : goal.returns-in-Some
returns-in-Some c =
    let l = c.loop in
    let z : 4096 - l.counter ≡ suc (4096 - (l.counter + 1)) = omega arith in
    (sym (l.invariant.1 ∙ all-call _ _ z _ _ _ _ c.skip_spaces-start.ensures _ (sym c.after.ensures ∙ c.in-Some.is)), l.invariant.2)

pub returns-then-start-place : goal.returns-then-start-place
returns-then-start-place c =
    let l = c.loop in
    let z : 4096 - l.counter ≡ suc (4096 - (l.counter + 1)) = omega arith in
    (sym (l.invariant.1 ∙ all-close _ _ z _ _ _ _ c.skip_spaces-start.ensures (sym c.after.ensures ∙ c.in_default.is) c.if-start-place.true), l.invariant.2)

pub returns-in_default-part_at : goal.returns-in_default-part_at
returns-in_default-part_at c =
    let l = c.loop in
    let z : 4096 - l.counter ≡ suc (4096 - (l.counter + 1)) = omega arith in
    let a = sym c.after.ensures ∙ c.in_default.is in
    let t = c.in_default-part_at.ensures in
    (sym (l.invariant.1 ∙ all-other _ _ z _ _ _ _ c.skip_spaces-start.ensures a c.if-start-place.false _ t.0), l.invariant.2)

pub loop-preserved : goal.loop-preserved
loop-preserved c =
    let l = c.loop in
    let z : 4096 - l.counter ≡ suc (4096 - (l.counter + 1)) = omega arith in
    let a = sym c.after.ensures ∙ c.in_default.is in
    let t = c.in-Some-part_at.ensures in
    (omega arith, l.invariant.1 ∙ all-next _ _ z _ _ _ _ c.skip_spaces-start.ensures a c.if-start-place.false _ _ t.0, t.1)

pub returns : goal.returns
returns c =
    let l = c.loop in
    (sym (l.invariant.1 ∙ all_end _ _ _ _ (search rules)), l.invariant.2)
