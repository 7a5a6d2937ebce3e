-- `samples_output::change` meets its contract. Assumes nothing.
use mathlib.Core.Path.{sym, ◌∙◌}
use native.Mathlib.Omega.{arith}
use borrow.Author.Rules.{rules}
use Rattle.samples_bytes.proofs.ChangeLaws.{told_none, told_end, told-some, starts-before, end-within}
use Rattle.samples_output.proofs.change.Goals as goal

pub returns-in_default : goal.returns-in_default
returns-in_default c = told_end _ _ _ _ c.change_end-end.ensures c.in_default.is-1

pub returns-in_default-2 : goal.returns-in_default-2
returns-in_default-2 c = told_none _ _ _ _ c.change_start-start.ensures c.in_default.is-0

pub slice_bounds-write_bytes-count : goal.slice_bounds-write_bytes-count
slice_bounds-write_bytes-count c =
    let s = sym c.in-Some-Some.is-0 ∙ c.change_start-start.ensures in
    let e = sym c.in-Some-Some.is-1 ∙ c.change_end-end.ensures in
    omega (arith, starts-before _ _ _ _ s e)

pub slice_bounds-write_bytes-start : goal.slice_bounds-write_bytes-start
slice_bounds-write_bytes-start c =
    let s = sym c.in-Some-Some.is-0 ∙ c.change_start-start.ensures in
    let e = sym c.in-Some-Some.is-1 ∙ c.change_end-end.ensures in
    let b = starts-before _ _ _ _ s e in
    let w = end-within _ _ _ e in
    search rules

pub slice_bounds-write_bytes-end : goal.slice_bounds-write_bytes-end
slice_bounds-write_bytes-end c =
    let s = sym c.in-Some-Some.is-0 ∙ c.change_start-start.ensures in
    let e = sym c.in-Some-Some.is-1 ∙ c.change_end-end.ensures in
    let b = starts-before _ _ _ _ s e in
    let w = end-within _ _ _ e in
    search rules

pub returns : goal.returns
returns c = told-some _ _ _ _ _ c.change_start-start.ensures c.in-Some-Some.is-0
