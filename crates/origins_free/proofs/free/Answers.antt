-- `origins_free::free` meets its contract: map and lengths, then the plain form's check, then the effect on shadow and cells. Assumes nothing.
use Rattle.std.proofs.Common.{◌≡◌, refl, sym, ap, ◌∙◌, List, ℕ}
use native.Mathlib.Omega.{arith}
use Rattle.map.specs.declared.Located.TheVariants.{Heap}
use Rattle.plain.specs.Call.{free, done}
use Rattle.shadows.specs.Shadows.{Shadows, lengths_fit}
use Rattle.cells_layout.specs.Cells.{Cells, cells_fit}
use Rattle.origins_list.specs.Call.{plain}
use Rattle.origins_base.proofs.CallLaws.{early-good, call-early}
use Rattle.origins_laws.proofs.PlainLaws.{state_of}
use Rattle.origins_write_laws.proofs.EndLaws.{ended-call, free-ends, free-settled}
use Rattle.origins_free.proofs.free.Goals as goal

pub returns-in-Err : goal.returns-in-Err
unfolding lengths_fit cells_fit
returns-in-Err c k =
    let s : Shadows = (c.args.heap.now, (c.args.primary.now, c.args.secondary.now)) in
    let y : Cells = (c.args.heap_cells.now, c.args.stack_cells.now) in
    rw c.refusal.ensures (sym (call-early c.args.map (plain (free c.args.base.0)) (state_of s y k) _ c.in-Err.ensures.0 c.in-Err.ensures.1))

pub check-requires : goal.check-requires
unfolding lengths_fit cells_fit
check-requires c =
    let s : Shadows = (c.args.heap.now, (c.args.primary.now, c.args.secondary.now)) in
    let y : Cells = (c.args.heap_cells.now, c.args.stack_cells.now) in
    let g = early-good c.args.map (state_of s y 0) (sym c.in_default.ensures) in
    (g.0, g.1)

pub returns-in-Ok-Some : goal.returns-in-Ok-Some
unfolding lengths_fit cells_fit
returns-in-Ok-Some c k =
    let s : Shadows = (c.args.heap.now, (c.args.primary.now, c.args.secondary.now)) in
    let y : Cells = (c.args.heap_cells.now, c.args.stack_cells.now) in
    let g = early-good c.args.map (state_of s y 0) (sym c.in_default.ensures) in
    let f = rw c.in-Ok-Some.field-0-is at c.in-Ok-Some.ensures in
    ended-call c.args.map s y g.2 (free c.args.base.0) c.args.base.0 (free-ends c.args.map s _ c.args.base.0 _ f.1.0.0 f.0) refl _
    (ap (λ (h : List ℕ). ((h, s.1), done)) c.erase.ensures ∙ f.0) (Heap _) (λ z. let w : ◌≡◌ {A = ℕ} 0 1 = cc in omega arith) f.1.0.0 _ f.1.0.1 _
    (ap (λ (h : List ℕ). (h, y.1)) c.zero.ensures) k _ c.accepted.ensures

pub returns-in-Ok-None : goal.returns-in-Ok-None
unfolding lengths_fit cells_fit
returns-in-Ok-None c k =
    let s : Shadows = (c.args.heap.now, (c.args.primary.now, c.args.secondary.now)) in
    let y : Cells = (c.args.heap_cells.now, c.args.stack_cells.now) in
    let g = early-good c.args.map (state_of s y 0) (sym c.in_default.ensures) in
    let f = rw c.in-Ok-None.field-0-is at c.in-Ok-None.ensures in
    free-settled c.args.map s y g.2 c.args.base.0 0 (λ z. f.1) f.0 k _ c.accepted-in-Ok-None.ensures

pub returns-in-Err-check : goal.returns-in-Err-check
unfolding lengths_fit cells_fit
returns-in-Err-check c k =
    let s : Shadows = (c.args.heap.now, (c.args.primary.now, c.args.secondary.now)) in
    let y : Cells = (c.args.heap_cells.now, c.args.stack_cells.now) in
    let g = early-good c.args.map (state_of s y 0) (sym c.in_default.ensures) in
    let f = c.in-Err-check.ensures in
    free-settled c.args.map s y g.2 c.args.base.0 _ (λ z. absurd (f.1 z)) f.0 k _ c.refusal-in-Err-check.ensures
