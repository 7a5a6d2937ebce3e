-- `origins_remove::remove` meets its contract: map and lengths, then the plain form's check, then the effect on shadows and cells. Assumes nothing.
use Rattle.std.proofs.Common.{◌≡◌, refl, sym, ap, ◌∙◌, List, ℕ}
use native.Mathlib.Omega.{arith}
use Rattle.map.specs.declared.Located.TheVariants.{Stack}
use Rattle.plain.specs.Call.{remove, done}
use Rattle.stack_layout.specs.Ops.{StackShadows}
use Rattle.shadows.specs.Shadows.{Shadows, lengths_fit}
use Rattle.cells_layout.specs.Cells.{Cells, cells_fit}
use Rattle.origins_list.specs.Call.{plain}
use Rattle.origins_base.proofs.CallLaws.{early-good, call-early}
use Rattle.origins_laws.proofs.PlainLaws.{state_of}
use Rattle.origins_write_laws.proofs.EndLaws.{ended-call, settled-call, stack-ready}
use Rattle.origins_remove.proofs.remove.Goals as goal

pub returns-in-Err : goal.returns-in-Err
unfolding lengths_fit cells_fit
returns-in-Err c k =
    let s : Shadows = (c.args.heap.now, (c.args.primary.now, c.args.secondary.now)) in
    let y : Cells = (c.args.heap_cells.now, c.args.stack_cells.now) in
    rw c.refusal.ensures (sym (call-early c.args.map (plain (remove c.args.base.0)) (state_of s y k) _ c.in-Err.ensures.0 c.in-Err.ensures.1))

pub check-requires : goal.check-requires
unfolding lengths_fit cells_fit
check-requires c =
    let s : Shadows = (c.args.heap.now, (c.args.primary.now, c.args.secondary.now)) in
    let y : Cells = (c.args.heap_cells.now, c.args.stack_cells.now) in
    let g = early-good c.args.map (state_of s y 0) (sym c.in_default.ensures) in
    (g.0, g.1)

pub zero-requires : goal.zero-requires
unfolding lengths_fit cells_fit
zero-requires c =
    let s : Shadows = (c.args.heap.now, (c.args.primary.now, c.args.secondary.now)) in
    let y : Cells = (c.args.heap_cells.now, c.args.stack_cells.now) in
    let g = early-good c.args.map (state_of s y 0) (sym c.in_default.ensures) in
    let f = c.in-Ok.ensures in
    stack-ready c.args.map s y g.2 (remove c.args.base.0) c.args.base.0 refl refl _ f.0 _ _ f.1.1.0

pub returns-in-Ok : goal.returns-in-Ok
unfolding lengths_fit cells_fit
returns-in-Ok c k =
    let s : Shadows = (c.args.heap.now, (c.args.primary.now, c.args.secondary.now)) in
    let y : Cells = (c.args.heap_cells.now, c.args.stack_cells.now) in
    let g = early-good c.args.map (state_of s y 0) (sym c.in_default.ensures) in
    let f = c.in-Ok.ensures in
    ended-call c.args.map s y g.2 (remove c.args.base.0) c.args.base.0 refl refl _
    (ap (λ (t : StackShadows). ((s.0, t), done)) c.erase.ensures ∙ f.0) (Stack _) (λ z. let w : ◌≡◌ {A = ℕ} 0 1 = cc in omega arith) f.1.0.0 _ f.1.0.1 _
    (ap (λ (h : List ℕ). (y.0, h)) c.zero.ensures) k _ c.accepted.ensures

pub returns-in-Err-check : goal.returns-in-Err-check
unfolding lengths_fit cells_fit
returns-in-Err-check c k =
    let s : Shadows = (c.args.heap.now, (c.args.primary.now, c.args.secondary.now)) in
    let y : Cells = (c.args.heap_cells.now, c.args.stack_cells.now) in
    let g = early-good c.args.map (state_of s y 0) (sym c.in_default.ensures) in
    let f = c.in-Err-check.ensures in
    settled-call c.args.map s y g.2 (remove c.args.base.0) c.args.base.0 refl refl _ f.1 f.0 k _ c.refusal-in-Err-check.ensures
