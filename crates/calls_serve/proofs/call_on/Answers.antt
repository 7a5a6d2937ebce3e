-- `calls_serve::call_on` meets its contract. Assumes nothing.
use mathlib.Core.Path.{◌∙◌}
use native.Mathlib.Nat.{sub-zero}
use Rattle.calls_format.proofs.KeptLaws.{on-parts}
use borrow.Author.Rules.{rules}
use Rattle.calls_serve.proofs.call_on.Goals as goal

pub returns : goal.returns
returns c =
    let a = c.args in
    let z = c.sizes_of-sizes.ensures in
    on-parts a.map _ _ a.heap.now a.primary.now a.secondary.now c.call_step.new.heap c.call_step.new.primary c.call_step.new.secondary _ _ _
    (sub-zero _ ∙ z.0)
    (sub-zero _ ∙ z.1)
    (sub-zero _ ∙ z.2)
    c.call_step.auto.heap
    c.call_step.auto.primary
    c.call_step.auto.secondary
    c.call_step.ensures
