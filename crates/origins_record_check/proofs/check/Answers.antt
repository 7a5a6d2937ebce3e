-- `origins_record_check::check` meets its contract: the plain form's check, then what this form adds. Assumes nothing.
use mathlib.Core.Path.{◌≡◌, sym, ◌∙◌}
use mathlib.Core.Bool.{true}
use Prim.Native.Nat.{ℕ}
use borrow.Author.Tests.{not-true, not-false}
use Rattle.std.specs.Prelude.{Result, Ok, Err, IfOk}
use Rattle.map.specs.declared.Located.{Located}
use Rattle.shadows.specs.Shadows.{Shadows}
use Rattle.cells_layout.specs.Cells.{Cells, cells_fit}
use Rattle.monitor_base.specs.Refusals.{Decides, told_of}
use Rattle.monitor_base.specs.declared.Refusal.{Refusal}
use Rattle.origins_write_laws.proofs.RecordLaws.{record-unfit, record-number, record-ready}
use Rattle.origins_record_check.proofs.check.Goals as goal

told : {A : Type 0} (r : Result A Refusal) (n : ℕ) → Decides n r → told_of r ≡ n
told (Ok x) n e = sym e
told (Err r) n e = e.0

-- a check that comes to the same number, and to a place of which more is known
same-check : (r : Result Located Refusal) (n m : ℕ) (P Q : Located → Type 0) → n ≡ m → Decides n r × IfOk r P
    → (n ≡ 0 → (x : Located) → P x → Q x) → Decides m r × IfOk r Q
same-check (Ok x) n m P Q e d f = (sym e ∙ d.0, f d.0 x d.1)
same-check (Err r) n m P Q e d f = ((d.0.0 ∙ e, d.0.1), tt)

pub returns-then-not-cells_fit : goal.returns-then-not-cells_fit
unfolding cells_fit
returns-then-not-cells_fit c =
    let s : Shadows = (c.args.heap.now, (c.args.primary.now, c.args.secondary.now)) in
    let y : Cells = (c.args.heap_cells.now, c.args.stack_cells.now) in
    let n = sym c.cells_fit.ensures ∙ not-true c.cells_fit.result c.if-not-cells_fit.true-raw in
    (record-unfit c.args.map s y c.args.counter c.args.how c.args.base.0 c.args.len n _ c.unfit.ensures, tt)

pub returns : goal.returns
unfolding cells_fit
returns c =
    let s : Shadows = (c.args.heap.now, (c.args.primary.now, c.args.secondary.now)) in
    let y : Cells = (c.args.heap_cells.now, c.args.stack_cells.now) in
    let fit : cells_fit c.args.map y ≡ true = sym c.cells_fit.ensures ∙ not-false c.cells_fit.result c.if-not-cells_fit.false-raw in
    let j = told_of c.check-checked.result in
    let e = told c.check-checked.result _ c.check-checked.ensures.0 in
    same-check c.decided.result _ _ _ _ (record-number c.args.map s y c.args.counter c.args.how c.args.base.0 c.args.len fit j e) c.decided.ensures
    (λ z x p.
    let r = record-ready c.args.map s y c.args.counter c.args.how c.args.base.0 c.args.len fit j e z in
    let t = rw p at c.check-checked.ensures in
    (t.0, t.1.0, t.1.1, r.2 x t.1.0 t.1.1, r.1))
