-- `monitor_begin::on_heap` meets its contract. Assumes nothing.
use mathlib.Core.Path.{sym, ◌∙◌}
use Prim.Native.Nat.{◌+◌, ◌≤◌}
use native.Mathlib.Omega.{arith}
use lib.ListN.{length}
use borrow.Author.Tests.{not-true, not-false, eqb-true, eqb-false}
use Rattle.map.specs.FormMap.{number_size, segment_size}
use Rattle.monitor_write_laws.proofs.RecordingLaws.{heap-4, heap-5, heap-6, heap-0}
use Rattle.monitor_begin.proofs.on_heap.Goals as goal

pub returns-then-b-segment : goal.returns-then-b-segment
returns-then-b-segment c =
    let W = number_size c.args.form in
    let G = segment_size c.args.form in
    let n = heap-4 W G c.args.heap.now c.args.base.0 c.args.len c.requires.le_len.0 (λ x y. omega (arith, c.if-b-segment.true, c.segment.ensures)) in
    (n, λ z. omega arith)

pub returns-then-end-b : goal.returns-then-end-b
returns-then-end-b c =
    let W = number_size c.args.form in
    let G = segment_size c.args.form in
    let n = heap-4 W G c.args.heap.now c.args.base.0 c.args.len c.requires.le_len.0 (λ x y. omega (arith, c.if-end-b.true, c.requires.le_len.1)) in
    (n, λ z. omega arith)

pub returns-then-not-whole : goal.returns-then-not-whole
returns-then-not-whole c =
    let W = number_size c.args.form in
    let G = segment_size c.args.form in
    let low : G ≤ c.args.base.0 = omega (arith, c.if-b-segment.false, c.segment.ensures) in
    let high : c.args.base.0 + c.args.len ≤ length c.args.heap.now = omega (arith, c.if-end-b.false, c.requires.le_len.1) in
    let unaligned = eqb-false _ 0 (sym c.whole.ensures ∙ not-true c.whole.result c.if-not-whole.true-raw) in
    (heap-5 W G c.args.heap.now c.args.base.0 c.args.len c.requires.le_len.0 low high unaligned, λ z. omega arith)

pub vacant-requires : goal.vacant-requires
vacant-requires c =
    let G = segment_size c.args.form in
    let low : G ≤ c.args.base.0 = omega (arith, c.if-b-segment.false, c.segment.ensures) in
    let high : c.args.base.0 + c.args.len ≤ length c.args.heap.now = omega (arith, c.if-end-b.false, c.requires.le_len.1) in
    let aligned = eqb-true _ 0 (sym c.whole.ensures ∙ not-false c.whole.result c.if-not-whole.false-raw) in
    record { form_bound = (low, aligned, high); le_len = (c.requires.le_len.0, c.requires.base_in_bounds.1, c.requires.base_in_bounds.2) }

pub returns-then-not-vacant : goal.returns-then-not-vacant
returns-then-not-vacant c =
    let W = number_size c.args.form in
    let G = segment_size c.args.form in
    let low : G ≤ c.args.base.0 = omega (arith, c.if-b-segment.false, c.segment.ensures) in
    let high : c.args.base.0 + c.args.len ≤ length c.args.heap.now = omega (arith, c.if-end-b.false, c.requires.le_len.1) in
    let aligned = eqb-true _ 0 (sym c.whole.ensures ∙ not-false c.whole.result c.if-not-whole.false-raw) in
    let taken = sym c.vacant.ensures ∙ not-true c.vacant.result c.if-not-vacant.true-raw in
    (heap-6 W G c.args.heap.now c.args.base.0 c.args.len c.requires.le_len.0 low high aligned taken, λ z. omega arith)

pub returns : goal.returns
returns c =
    let W = number_size c.args.form in
    let G = segment_size c.args.form in
    let low : G ≤ c.args.base.0 = omega (arith, c.if-b-segment.false, c.segment.ensures) in
    let high : c.args.base.0 + c.args.len ≤ length c.args.heap.now = omega (arith, c.if-end-b.false, c.requires.le_len.1) in
    let aligned = eqb-true _ 0 (sym c.whole.ensures ∙ not-false c.whole.result c.if-not-whole.false-raw) in
    let free = sym c.vacant.ensures ∙ not-false c.vacant.result c.if-not-vacant.false-raw in
    sym (heap-0 W G c.args.heap.now c.args.base.0 c.args.len c.requires.le_len.0 low high aligned free)
