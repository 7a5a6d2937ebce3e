-- `monitor_record_check::check` meets its contract: one arm for each area. Assumes nothing.
use mathlib.Core.Path.{◌≡◌, refl, sym, ◌∙◌}
use mathlib.Core.Bool.{false}
use native.Mathlib.Omega.{arith}
use Rattle.std.proofs.lemmas.Result.{err_from_is_err_and}
use Rattle.map.specs.FormMap.{under}
use Rattle.map.specs.declared.Located.TheVariants.{Heap, Stack}
use Rattle.types.specs.declared.Beginning.{Beginning}
use Rattle.types.specs.declared.Beginning.TheVariants.{Unwritten, Written, Literal}
use Rattle.plain.specs.Block.{starts_literal}
use Rattle.plain.specs.Call.{begin}
use Rattle.shadows.specs.Shadows.{Shadows, lengths_fit}
use Rattle.monitor_base.proofs.CallLaws.{early-good}
use Rattle.monitor_base.proofs.LocatingLaws.{ends, heap-there, stack-there, heap-end, stack-end}
use Rattle.monitor_write_laws.proofs.CheckLaws.{number-early}
use Rattle.monitor_write_laws.proofs.RecordChecks.{record-3, record-4, literal-4, record-heap, record-stack, stampable}
use Rattle.monitor_record_check.proofs.check.Goals as goal

no_literal : (how : Beginning) → (how ≡ Literal → ⊥) → starts_literal how ≡ false
no_literal Unwritten n = refl
no_literal Written n = refl
no_literal Literal n = absurd (n refl)

pub returns-in_err-checked : goal.returns-in_err-checked
unfolding lengths_fit
returns-in_err-checked c =
    let s : Shadows = (c.args.heap.now, (c.args.primary.now, c.args.secondary.now)) in
    let e = c.in_err-checked.ensures in
    let p = err_from_is_err_and c.from_residual.result c.from_residual.ensures.1 in
    rw (p.1, p.2) ((number-early (under c.args.form c.args.map) (begin c.args.how c.args.base.0 c.args.len) s _ e.0 e.1, e.1), tt)

pub returns-then-len-eq0 : goal.returns-then-len-eq0
unfolding lengths_fit
returns-then-len-eq0 c =
    let s : Shadows = (c.args.heap.now, (c.args.primary.now, c.args.secondary.now)) in
    let m = under c.args.form c.args.map in
    let g = early-good m s (sym c.in_ok-checked.ensures) in
    ((record-3 m s c.args.base.0 c.args.len c.args.how g.0 g.1 c.if-len-eq0.true, λ z. omega arith), tt)

-- a literal in the heap
pub returns-in-Literal : goal.returns-in-Literal
unfolding lengths_fit
returns-in-Literal c =
    let s : Shadows = (c.args.heap.now, (c.args.primary.now, c.args.secondary.now)) in
    let m = under c.args.form c.args.map in
    let g = early-good m s (sym c.in_ok-checked.ensures) in
    let h = rw c.in-Heap.is at c.locate-place.ensures in
    ((literal-4 m s c.args.base.0 c.args.len c.args.how g.0 g.1 c.if-len-eq0.false c.in-Literal.is h.0, λ z. omega arith), tt)

pub end-requires : goal.end-requires
unfolding lengths_fit
end-requires c =
    let s : Shadows = (c.args.heap.now, (c.args.primary.now, c.args.secondary.now)) in
    let g = early-good (under c.args.form c.args.map) s (sym c.in_ok-checked.ensures) in
    ends (under c.args.form c.args.map) s g.0 g.1

pub on_heap-requires : goal.on_heap-requires
unfolding lengths_fit
on_heap-requires c =
    let s : Shadows = (c.args.heap.now, (c.args.primary.now, c.args.secondary.now)) in
    let m = under c.args.form c.args.map in
    let g = early-good m s (sym c.in_ok-checked.ensures) in
    let h = rw c.in-Heap.is at c.locate-place.ensures in
    record {
      le_len = (omega (arith, c.if-len-eq0.false), c.end.ensures ∙ heap-end m s g.0 g.1);
      base_in_bounds = heap-there m s g.0 g.1 c.args.base.0 _ h.0 h.1;
    }

pub returns-in_err-on_heap-in-Heap : goal.returns-in_err-on_heap-in-Heap
unfolding lengths_fit
returns-in_err-on_heap-in-Heap c =
    let s : Shadows = (c.args.heap.now, (c.args.primary.now, c.args.secondary.now)) in
    let m = under c.args.form c.args.map in
    let g = early-good m s (sym c.in_ok-checked.ensures) in
    let h = rw c.in-Heap.is at c.locate-place.ensures in
    let o = no_literal c.args.how c.in_default.not-Literal in
    let e = c.in_err-on_heap-in-Heap.ensures in
    let p = err_from_is_err_and c.from_residual-in_err-on_heap-in-Heap.result c.from_residual-in_err-on_heap-in-Heap.ensures.1 in
    rw (p.1, p.2) ((e.0 ∙ record-heap m s c.args.base.0 c.args.len c.args.how g.0 g.1 _ o h.0 h.1, e.1), tt)

pub returns-in_ok-on_heap-in-Heap : goal.returns-in_ok-on_heap-in-Heap
unfolding lengths_fit
returns-in_ok-on_heap-in-Heap c =
    let s : Shadows = (c.args.heap.now, (c.args.primary.now, c.args.secondary.now)) in
    let m = under c.args.form c.args.map in
    let g = early-good m s (sym c.in_ok-checked.ensures) in
    let h = rw c.in-Heap.is at c.locate-place.ensures in
    let o = no_literal c.args.how c.in_default.not-Literal in
    let n = sym (record-heap m s c.args.base.0 c.args.len c.args.how g.0 g.1 _ o h.0 h.1) ∙ c.in_ok-on_heap-in-Heap.ensures in
    (n, (h, stampable m s c.args.base.0 c.args.len c.args.how n (Heap _) h))

pub end-requires-in-Stack : goal.end-requires-in-Stack
unfolding lengths_fit
end-requires-in-Stack c =
    let s : Shadows = (c.args.heap.now, (c.args.primary.now, c.args.secondary.now)) in
    let g = early-good (under c.args.form c.args.map) s (sym c.in_ok-checked.ensures) in
    ends (under c.args.form c.args.map) s g.0 g.1

pub on_stack-requires : goal.on_stack-requires
unfolding lengths_fit
on_stack-requires c =
    let s : Shadows = (c.args.heap.now, (c.args.primary.now, c.args.secondary.now)) in
    let m = under c.args.form c.args.map in
    let g = early-good m s (sym c.in_ok-checked.ensures) in
    let h = rw c.in-Stack.is at c.locate-place.ensures in
    record {
      le_len = (omega (arith, c.if-len-eq0.false), c.end-in-Stack.ensures ∙ stack-end m s g.0 g.1);
      base_in_bounds = stack-there m s g.0 g.1 c.args.base.0 _ h.0 h.1;
    }

pub returns-in_err-on_stack-in-Stack : goal.returns-in_err-on_stack-in-Stack
unfolding lengths_fit
returns-in_err-on_stack-in-Stack c =
    let s : Shadows = (c.args.heap.now, (c.args.primary.now, c.args.secondary.now)) in
    let m = under c.args.form c.args.map in
    let g = early-good m s (sym c.in_ok-checked.ensures) in
    let h = rw c.in-Stack.is at c.locate-place.ensures in
    let e = c.in_err-on_stack-in-Stack.ensures in
    let p = err_from_is_err_and c.from_residual-in_err-on_stack-in-Stack.result c.from_residual-in_err-on_stack-in-Stack.ensures.1 in
    rw (p.1, p.2) ((e.0 ∙ record-stack m s c.args.base.0 c.args.len c.args.how g.0 g.1 _ h.0 h.1, e.1), tt)

pub returns-in_ok-on_stack-in-Stack : goal.returns-in_ok-on_stack-in-Stack
unfolding lengths_fit
returns-in_ok-on_stack-in-Stack c =
    let s : Shadows = (c.args.heap.now, (c.args.primary.now, c.args.secondary.now)) in
    let m = under c.args.form c.args.map in
    let g = early-good m s (sym c.in_ok-checked.ensures) in
    let h = rw c.in-Stack.is at c.locate-place.ensures in
    let n = sym (record-stack m s c.args.base.0 c.args.len c.args.how g.0 g.1 _ h.0 h.1) ∙ c.in_ok-on_stack-in-Stack.ensures in
    (n, (h, stampable m s c.args.base.0 c.args.len c.args.how n (Stack _) h))

pub returns-in-Outside : goal.returns-in-Outside
unfolding lengths_fit
returns-in-Outside c =
    let s : Shadows = (c.args.heap.now, (c.args.primary.now, c.args.secondary.now)) in
    let m = under c.args.form c.args.map in
    let g = early-good m s (sym c.in_ok-checked.ensures) in
    let h = rw c.in-Outside.is at c.locate-place.ensures in
    ((record-4 m s c.args.base.0 c.args.len c.args.how g.0 g.1 c.if-len-eq0.false h, λ z. omega arith), tt)
