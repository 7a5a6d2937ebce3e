-- `heap_gaps::choose` meets its contract: the whole scan is what the gaps that are left add to what was looked at. Assumes nothing.
use Rattle.std.proofs.Common.{ℕ, ◌≡◌, ◌+◌, ◌*◌, ◌/◌, ◌%◌, ◌<◌, ◌≤◌, length, ap, ◌∙◌, arith}
use Rattle.map.specs.FormMap.{number_size, segment_size}
use Rattle.heap_words.proofs.FormLaws.{by_form}
use Rattle.heap_gap.specs.Scans.{choice_of}
use Rattle.heap_gap_laws.specs.Pass.{choice}
use Rattle.heap_gap_laws.proofs.KeptLaws.{kept-start, kept_full, kept_next, kept-last}
use Rattle.heap_gaps.proofs.choose.Goals as goal

pub loop-i-init : goal.loop-i-init
loop-i-init c =
    let z : 4 * segment_size c.args.form * 0 ≡ 0 = omega arith in
    rw z (kept-start _ _ _ (by_form (λ W G. 0 < G) (omega arith) (omega arith) c.args.form))

pub returns-then-g-budget-clause-result_value : goal.returns-then-g-budget-clause-result_value
returns-then-g-budget-clause-result_value c =
    let a = c.args in
    kept_full a.heap.now c.needed-need.result a.budget c.loop-i.g (4 * segment_size a.form * c.loop-i.i) c.loop-i.invariant c.if-g-budget.true
    ∙ ap (λ (n : ℕ). choice (number_size a.form) (segment_size a.form) n a.budget a.heap.now) c.needed-need.ensures

pub loop-i-2-preserved : goal.loop-i-2-preserved
loop-i-2-preserved c =
    let a = c.args in
    let i = c.loop-i-2.i in
    let n = length a.heap.now in
    kept_next a.heap.now c.needed-need.result a.budget c.loop-i-2.g c.turn-g.result (segment_size a.form * i) (segment_size a.form * (i + 1)) _
    c.loop-i-2.invariant (by_form (λ W G. G * (i + 1) ≡ G * i + G) (omega arith) (omega arith) a.form)
    (by_form (λ W G. i < n / G → G * (i + 1) ≤ n) (λ h. omega arith) (λ h. omega arith) a.form (rw c.segment-step.ensures at c.loop-i-2-test.true))
    (rw c.segment-step.ensures at c.segment_at.ensures) (rw c.segment-step.ensures at c.turn-g.ensures)

pub returns-clause-result_value : goal.returns-clause-result_value
returns-clause-result_value c =
    let a = c.args in
    let i = c.loop-i-2.i in
    let n = length a.heap.now in
    let k = c.loop-i-2.invariant in
    let e : segment_size a.form * i ≡ n =
    by_form (λ W G. n / G ≤ i → G * i ≤ n → n % G ≡ 0 → G * i ≡ n) (λ x y z. omega arith) (λ x y z. omega arith) a.form
    (rw c.segment-step.ensures at c.loop-i-2-test.false) k.inside c.requires.0 in
    let l = kept-last a.heap.now c.needed-need.result a.budget c.loop-i-2.g n (rw e at k) (omega (arith, k.some)) in
    ap choice_of c.ended.ensures ∙ l.0 ∙ ap (λ (x : ℕ). choice (number_size a.form) (segment_size a.form) x a.budget a.heap.now) c.needed-need.ensures
