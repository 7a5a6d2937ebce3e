-- `monitor_written_check::check` meets its contract: one arm for each area. Assumes nothing.
use mathlib.Core.Path.{◌≡◌, refl, sym, ap, ◌∙◌}
use mathlib.Core.Bool.{true, false}
use Prim.Native.Nat.{ℕ}
use native.Mathlib.Omega.{arith}
use native.Mathlib.Nat.{zero-add}
use borrow.Author.Tests.{le-leb}
use Rattle.std.proofs.lemmas.Result.{err_from_is_err_and}
use Rattle.number.specs.Parts.{at}
use Rattle.map.specs.FormMap.{FormMap, areas, under}
use Rattle.map.specs.Locating.{Lies}
use Rattle.map.specs.declared.Located.{Located}
use Rattle.map.specs.declared.Located.TheVariants.{Heap, Stack}
use Rattle.plain.specs.Call.{written}
use Rattle.plain.specs.Reading.{Reading, block}
use Rattle.stack_laws.proofs.WholeLaws.{plain-read}
use Rattle.shadows.specs.Shadows.{Shadows, lengths_fit}
use Rattle.monitor_base.proofs.CallLaws.{early-good}
use Rattle.monitor_base.proofs.LocatingLaws.{heap-there, stack-there}
use Rattle.monitor_write_laws.specs.AreaCalls.{written_refusal}
use Rattle.monitor_write_laws.specs.Checks.{number_of, Markable}
use Rattle.monitor_write_laws.proofs.CheckLaws.{number-early}
use Rattle.monitor_write_laws.proofs.WrittenChecks.{written-number-3, written-number-4, written-heap, written-stack, markable}
use Rattle.monitor_written_check.proofs.check.Goals as goal

-- accepted, where the address lies at the place x
accepted : (m : FormMap) (s : Shadows) (a n : ℕ) (x : Located) → Lies (areas m) a x → number_of m (written a n) s ≡ 0
    → (number_of m (written a n) s ≡ 0) × Lies (areas m) a x × Markable m.segment x n s.0 s.1.0
accepted m s a n x y z = (z, y, markable m s a n 0 (sym z) x (λ w. y) (λ w. absurd (w refl)))

-- n bytes that are a whole block, which is no literal
whole-passed : (n p w : ℕ) (r : Reading) → r ≡ block p n 0 w false → written_refusal true n r ≡ 0
whole-passed n p w r e = rw (e, zero-add n, le-leb n n (omega arith))

pub returns-in_err-checked : goal.returns-in_err-checked
unfolding lengths_fit
returns-in_err-checked c =
    let s : Shadows = (c.args.heap.now, (c.args.primary.now, c.args.secondary.now)) in
    let e = c.in_err-checked.ensures in
    let p = err_from_is_err_and c.from_residual.result c.from_residual.ensures.1 in
    rw (p.1, p.2) (number-early (under c.args.form c.args.map) (written c.args.a.0 c.args.n) s _ e.0 e.1, e.1)

pub returns-then-n-eq0 : goal.returns-then-n-eq0
unfolding lengths_fit
returns-then-n-eq0 c =
    let s : Shadows = (c.args.heap.now, (c.args.primary.now, c.args.secondary.now)) in
    let g = early-good (under c.args.form c.args.map) s (sym c.in_ok-checked.ensures) in
    (written-number-3 (under c.args.form c.args.map) s c.args.a.0 c.args.n g.0 g.1 c.if-n-eq0.true, λ z. omega arith)

pub read-requires : goal.read-requires
unfolding lengths_fit
read-requires c =
    let s : Shadows = (c.args.heap.now, (c.args.primary.now, c.args.secondary.now)) in
    let g = early-good (under c.args.form c.args.map) s (sym c.in_ok-checked.ensures) in
    let h = rw c.in-Heap.is at c.locate.ensures in
    heap-there (under c.args.form c.args.map) s g.0 g.1 c.args.a.0 _ h.0 h.1

pub returns-in_err-refused-in-Heap : goal.returns-in_err-refused-in-Heap
unfolding lengths_fit
returns-in_err-refused-in-Heap c =
    let s : Shadows = (c.args.heap.now, (c.args.primary.now, c.args.secondary.now)) in
    let g = early-good (under c.args.form c.args.map) s (sym c.in_ok-checked.ensures) in
    let h = rw c.in-Heap.is at c.locate.ensures in
    let e = c.in_err-refused-in-Heap.ensures in
    let w = ap (written_refusal false c.args.n) c.read.ensures ∙ written-heap (under c.args.form c.args.map) s c.args.a.0 c.args.n g.0 g.1 c.if-n-eq0.false _ h.0 h.1 in
    let p = err_from_is_err_and c.from_residual-in_err-refused-in-Heap.result c.from_residual-in_err-refused-in-Heap.ensures.1 in
    rw (p.1, p.2) (e.0 ∙ w, e.1)

pub returns-in_ok-refused-in-Heap : goal.returns-in_ok-refused-in-Heap
unfolding lengths_fit
returns-in_ok-refused-in-Heap c =
    let s : Shadows = (c.args.heap.now, (c.args.primary.now, c.args.secondary.now)) in
    let g = early-good (under c.args.form c.args.map) s (sym c.in_ok-checked.ensures) in
    let h = rw c.in-Heap.is at c.locate.ensures in
    let w = ap (written_refusal false c.args.n) c.read.ensures ∙ written-heap (under c.args.form c.args.map) s c.args.a.0 c.args.n g.0 g.1 c.if-n-eq0.false _ h.0 h.1 in
    accepted (under c.args.form c.args.map) s c.args.a.0 c.args.n (Heap c.in-Heap.p) h (sym w ∙ c.in_ok-refused-in-Heap.ensures)

pub writable-requires : goal.writable-requires
unfolding lengths_fit
writable-requires c =
    let s : Shadows = (c.args.heap.now, (c.args.primary.now, c.args.secondary.now)) in
    let g = early-good (under c.args.form c.args.map) s (sym c.in_ok-checked.ensures) in
    let h = rw c.in-Stack.is at c.locate.ensures in
    let t = stack-there (under c.args.form c.args.map) s g.0 g.1 c.args.a.0 _ h.0 h.1 in
    (t.0, t.2)

pub returns-then-writable : goal.returns-then-writable
unfolding lengths_fit
returns-then-writable c =
    let s : Shadows = (c.args.heap.now, (c.args.primary.now, c.args.secondary.now)) in
    let g = early-good (under c.args.form c.args.map) s (sym c.in_ok-checked.ensures) in
    let h = rw c.in-Stack.is at c.locate.ensures in
    let r = plain-read _ (at c.args.primary.now) (at c.args.secondary.now) (λ q. (c.type_inv.primary q).fits) c.in-Stack.p.0 c.args.n (sym c.writable.ensures ∙ c.if-writable.true) in
    let w = written-stack (under c.args.form c.args.map) s c.args.a.0 c.args.n g.0 g.1 c.if-n-eq0.false _ h.0 h.1 in
    accepted (under c.args.form c.args.map) s c.args.a.0 c.args.n (Stack c.in-Stack.p) h (sym w ∙ whole-passed c.args.n _ _ _ r)

pub read-requires-in-Stack : goal.read-requires-in-Stack
unfolding lengths_fit
read-requires-in-Stack c =
    let s : Shadows = (c.args.heap.now, (c.args.primary.now, c.args.secondary.now)) in
    let g = early-good (under c.args.form c.args.map) s (sym c.in_ok-checked.ensures) in
    let h = rw c.in-Stack.is at c.locate.ensures in
    stack-there (under c.args.form c.args.map) s g.0 g.1 c.args.a.0 _ h.0 h.1

pub returns-in_err-refused-in-Stack : goal.returns-in_err-refused-in-Stack
unfolding lengths_fit
returns-in_err-refused-in-Stack c =
    let s : Shadows = (c.args.heap.now, (c.args.primary.now, c.args.secondary.now)) in
    let g = early-good (under c.args.form c.args.map) s (sym c.in_ok-checked.ensures) in
    let h = rw c.in-Stack.is at c.locate.ensures in
    let e = c.in_err-refused-in-Stack.ensures in
    let w = ap (written_refusal true c.args.n) c.read-in-Stack.ensures ∙ written-stack (under c.args.form c.args.map) s c.args.a.0 c.args.n g.0 g.1 c.if-n-eq0.false _ h.0 h.1 in
    let p = err_from_is_err_and c.from_residual-in_err-refused-in-Stack.result c.from_residual-in_err-refused-in-Stack.ensures.1 in
    rw (p.1, p.2) (e.0 ∙ w, e.1)

pub returns-in_ok-refused-in-Stack : goal.returns-in_ok-refused-in-Stack
unfolding lengths_fit
returns-in_ok-refused-in-Stack c =
    let s : Shadows = (c.args.heap.now, (c.args.primary.now, c.args.secondary.now)) in
    let g = early-good (under c.args.form c.args.map) s (sym c.in_ok-checked.ensures) in
    let h = rw c.in-Stack.is at c.locate.ensures in
    let w = ap (written_refusal true c.args.n) c.read-in-Stack.ensures ∙ written-stack (under c.args.form c.args.map) s c.args.a.0 c.args.n g.0 g.1 c.if-n-eq0.false _ h.0 h.1 in
    accepted (under c.args.form c.args.map) s c.args.a.0 c.args.n (Stack c.in-Stack.p) h (sym w ∙ c.in_ok-refused-in-Stack.ensures)

pub returns-in-Outside : goal.returns-in-Outside
unfolding lengths_fit
returns-in-Outside c =
    let s : Shadows = (c.args.heap.now, (c.args.primary.now, c.args.secondary.now)) in
    let g = early-good (under c.args.form c.args.map) s (sym c.in_ok-checked.ensures) in
    let h = rw c.in-Outside.is at c.locate.ensures in
    (written-number-4 (under c.args.form c.args.map) s c.args.a.0 c.args.n g.0 g.1 c.if-n-eq0.false h, λ z. omega arith)
