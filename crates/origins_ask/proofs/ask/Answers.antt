-- `origins_ask::ask` meets its contract: the cells fit, then the plain form's call. Assumes nothing.
use mathlib.Core.Path.{refl, sym, ◌∙◌}
use Rattle.plain.specs.Call.{ask}
use Rattle.shadows.specs.Shadows.{Shadows}
use Rattle.cells_layout.specs.Cells.{Cells, cells_fit}
use Rattle.origins_list.specs.Call.{plain}
use Rattle.origins_laws.proofs.PlainLaws.{state_of, told-plain, told-unfit}
use Rattle.origins_ask.proofs.ask.Goals as goal

pub returns-then-not-cells_fit : goal.returns-then-not-cells_fit
unfolding cells_fit
returns-then-not-cells_fit c k =
    let s : Shadows = (c.args.heap.now, (c.args.primary.now, c.args.secondary.now)) in
    let y : Cells = (c.args.heap_cells.now, c.args.stack_cells.now) in
    told-unfit c.args.map (plain (ask c.args.a.0)) (state_of s y k) (sym c.cells_fit.ensures ∙ c.if-not-cells_fit.true) _ c.unfit.ensures _ c.refusal.ensures

pub returns : goal.returns
unfolding cells_fit
returns c k =
    let s : Shadows = (c.args.heap.now, (c.args.primary.now, c.args.secondary.now)) in
    let y : Cells = (c.args.heap_cells.now, c.args.stack_cells.now) in
    told-plain c.args.map s y k (sym c.cells_fit.ensures ∙ c.if-not-cells_fit.false) (ask c.args.a.0) refl refl _ _ c.ask.ensures
