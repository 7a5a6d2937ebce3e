-- `calls_origins_serve::serve_on` meets its contract. Assumes nothing.
use Rattle.calls_origins_format.specs.Decoded.{requested}
use Rattle.calls_origins_plan.proofs.PlanLaws.{served-no, served-step}
use Rattle.calls_origins_serve.proofs.serve_on.Goals as goal

pub returns-in-Ok : goal.returns-in-Ok
returns-in-Ok c =
    let a = c.args in
    served-step a.map a.heap.now a.primary.now a.secondary.now a.heap_cells.now a.stack_cells.now a.counter
    (requested a.request) _ _ _ _ _ _ _ _ _
    c.in-Ok.ensures
    c.requires.0
    c.requires.1
    c.requires.2
    c.requires.3
    c.requires.4
    c.call_on-told.ensures

pub returns-in-Err : goal.returns-in-Err
returns-in-Err c =
    let a = c.args in
    rw c.refusal.ensures
    (served-no a.map a.heap.now a.primary.now a.secondary.now a.heap_cells.now a.stack_cells.now a.counter (requested a.request) _ c.in-Err.ensures)
