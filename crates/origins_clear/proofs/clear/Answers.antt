-- `origins_clear::clear` meets its contract: the cells fit, then the plain form's call, then the cells. Assumes nothing.
use mathlib.Core.Path.{refl, sym, ◌∙◌}
use Rattle.plain.specs.Call.{clear}
use Rattle.shadows.specs.Shadows.{Shadows}
use Rattle.cells_layout.specs.Cells.{Cells, cells_fit}
use Rattle.origins_list.specs.Call.{plain}
use Rattle.origins_laws.proofs.PlainLaws.{state_of, told-unfit}
use Rattle.origins_write_laws.proofs.NumberLaws.{other-refused, other-accepted}
use Rattle.origins_write_laws.proofs.ClearLaws.{cleared}
use Rattle.origins_clear.proofs.clear.Goals as goal

pub returns-then-not-cells_fit : goal.returns-then-not-cells_fit
unfolding cells_fit
returns-then-not-cells_fit c k =
    let s : Shadows = (c.args.heap.now, (c.args.primary.now, c.args.secondary.now)) in
    let y : Cells = (c.args.heap_cells.now, c.args.stack_cells.now) in
    told-unfit c.args.map (plain clear) (state_of s y k) (sym c.cells_fit.ensures ∙ c.if-not-cells_fit.true) _ c.unfit.ensures _ c.refusal.ensures

pub returns-then-answer-ne0 : goal.returns-then-answer-ne0
unfolding cells_fit
returns-then-answer-ne0 c k =
    let s : Shadows = (c.args.heap.now, (c.args.primary.now, c.args.secondary.now)) in
    let y : Cells = (c.args.heap_cells.now, c.args.stack_cells.now) in
    let fit = sym c.cells_fit.ensures ∙ c.if-not-cells_fit.false in
    other-refused c.args.map s y k fit clear refl refl _ _ c.clear-answer.ensures c.if-answer-ne0.true

pub returns : goal.returns
unfolding cells_fit
returns c k =
    let s : Shadows = (c.args.heap.now, (c.args.primary.now, c.args.secondary.now)) in
    let y : Cells = (c.args.heap_cells.now, c.args.stack_cells.now) in
    let z : Cells = (c.fill_zero.new.s, c.fill_zero-2.new.s) in
    let fit = sym c.cells_fit.ensures ∙ c.if-not-cells_fit.false in
    other-accepted c.args.map s y k fit clear refl refl _ _ c.clear-answer.ensures c.if-answer-ne0.false z
    (cleared c.args.map y z fit c.fill_zero.ensures c.fill_zero-2.ensures)
