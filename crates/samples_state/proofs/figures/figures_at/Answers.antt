-- `samples_state::figures::figures_at` meets its contract. Assumes nothing.
use mathlib.Core.Path.{sym, ◌∙◌}
use Rattle.samples_state.proofs.FigureLaws.{part-heap, part-primary, part-secondary, part-heap_cells, part-stack_cells, part-none, part-counter}
use Rattle.samples_state.proofs.figures.figures_at.Goals as goal

pub returns-in-Some : goal.returns-in-Some
returns-in-Some c =
    let e = sym c.length_at.ensures.0 ∙ c.in-Some.is in
    (part-heap _ _ _ _ e, (c.in-Some.ensures.1, c.requires.1, c.requires.2, c.requires.3, c.requires.4))

pub returns-in-Some-length_at : goal.returns-in-Some-length_at
returns-in-Some-length_at c =
    let h = sym c.length_at.ensures.0 ∙ c.in_default.is in
    let e = sym c.length_at-2.ensures.0 ∙ c.in-Some-length_at.is in
    (part-primary _ _ _ h _ e, (c.requires.0, c.in-Some-length_at.ensures.1, c.requires.2, c.requires.3, c.requires.4))

pub returns-in-Some-length_at-2 : goal.returns-in-Some-length_at-2
returns-in-Some-length_at-2 c =
    let h = sym c.length_at.ensures.0 ∙ c.in_default.is in
    let q = sym c.length_at-2.ensures.0 ∙ c.in_default-length_at.is in
    let e = sym c.length_at-3.ensures.0 ∙ c.in-Some-length_at-2.is in
    (part-secondary _ _ _ h q _ e, (c.requires.0, c.requires.1, c.in-Some-length_at-2.ensures.1, c.requires.3, c.requires.4))

pub returns-in-Some-length_at-3 : goal.returns-in-Some-length_at-3
returns-in-Some-length_at-3 c =
    let h = sym c.length_at.ensures.0 ∙ c.in_default.is in
    let q = sym c.length_at-2.ensures.0 ∙ c.in_default-length_at.is in
    let s = sym c.length_at-3.ensures.0 ∙ c.in_default-length_at-2.is in
    let e = sym c.length_at-4.ensures.0 ∙ c.in-Some-length_at-3.is in
    (part-heap_cells _ _ _ h q s _ e, (c.requires.0, c.requires.1, c.requires.2, c.in-Some-length_at-3.ensures.1, c.requires.4))

pub returns-in-Some-length_at-4 : goal.returns-in-Some-length_at-4
returns-in-Some-length_at-4 c =
    let h = sym c.length_at.ensures.0 ∙ c.in_default.is in
    let q = sym c.length_at-2.ensures.0 ∙ c.in_default-length_at.is in
    let s = sym c.length_at-3.ensures.0 ∙ c.in_default-length_at-2.is in
    let a = sym c.length_at-4.ensures.0 ∙ c.in_default-length_at-3.is in
    let e = sym c.length_at-5.ensures.0 ∙ c.in-Some-length_at-4.is in
    (part-stack_cells _ _ _ h q s a _ e, (c.requires.0, c.requires.1, c.requires.2, c.requires.3, c.in-Some-length_at-4.ensures.1))

pub returns-in_err-counter : goal.returns-in_err-counter
returns-in_err-counter c =
    let h = sym c.length_at.ensures.0 ∙ c.in_default.is in
    let q = sym c.length_at-2.ensures.0 ∙ c.in_default-length_at.is in
    let s = sym c.length_at-3.ensures.0 ∙ c.in_default-length_at-2.is in
    let a = sym c.length_at-4.ensures.0 ∙ c.in_default-length_at-3.is in
    let b = sym c.length_at-5.ensures.0 ∙ c.in_default-length_at-4.is in
    rw c.from_residual.ensures (part-none _ _ _ h q s a b (sym c.counter_at.ensures ∙ c.in_err-counter.was), tt)

pub returns : goal.returns
returns c =
    let h = sym c.length_at.ensures.0 ∙ c.in_default.is in
    let q = sym c.length_at-2.ensures.0 ∙ c.in_default-length_at.is in
    let s = sym c.length_at-3.ensures.0 ∙ c.in_default-length_at-2.is in
    let a = sym c.length_at-4.ensures.0 ∙ c.in_default-length_at-3.is in
    let b = sym c.length_at-5.ensures.0 ∙ c.in_default-length_at-4.is in
    (part-counter _ _ _ h q s a b _ (sym c.counter_at.ensures ∙ c.in_ok-counter.was), c.requires)
