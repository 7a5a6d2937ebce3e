-- `calls_serve::serve_on` meets its contract. Assumes nothing.
use Rattle.calls_format.specs.Decoded.{requested}
use Rattle.calls_plan.proofs.PlainLaws.{served-no, served-step}
use Rattle.calls_serve.proofs.serve_on.Goals as goal

pub returns-in-Ok : goal.returns-in-Ok
returns-in-Ok c =
    let a = c.args in
    served-step a.map a.heap.now a.primary.now a.secondary.now (requested a.request) _ _ _ _ _ _
    c.in-Ok.ensures
    c.requires.0
    c.requires.1
    c.requires.2
    c.call_on.ensures

pub returns-in-Err : goal.returns-in-Err
returns-in-Err c =
    let a = c.args in
    rw c.refusal.ensures (served-no a.map a.heap.now a.primary.now a.secondary.now (requested a.request) _ c.in-Err.ensures)
