-- `calls_origins_serve::call_on` meets its contract. Assumes nothing.
use mathlib.Core.Path.{◌∙◌}
use native.Mathlib.Nat.{sub-zero}
use Rattle.calls_origins_format.proofs.KeptLaws.{on-parts}
use borrow.Author.Rules.{rules}
use Rattle.specification_origins.proofs.OriginsSame.{call_same}
use Rattle.calls_origins_serve.proofs.call_on.Goals as goal

pub returns : goal.returns
returns c =
    let a = c.args in
    let z = c.sizes_of-sizes.ensures in
    let w = c.cell_sizes-cells.ensures in
    on-parts a.map a.heap.now a.primary.now a.secondary.now a.heap_cells.now a.stack_cells.now _ _ _ _ _
    (sub-zero _ ∙ z.0)
    (sub-zero _ ∙ z.1)
    (sub-zero _ ∙ z.2)
    (sub-zero _ ∙ w.0)
    (sub-zero _ ∙ w.1)
    _ _ a.counter c.step.result.counter
    c.step.new.heap
    c.step.new.primary
    c.step.new.secondary
    c.step.new.heap_cells
    c.step.new.stack_cells
    c.step.auto.heap
    c.step.auto.primary
    c.step.auto.secondary
    c.step.auto.heap_cells
    c.step.auto.stack_cells
    (c.step.ensures ∙ call_same _ _ _)
