-- `heap_climb::past_segments` meets its contract: the segments passed by now are free. Assumes nothing.
use Rattle.std.proofs.Common.{◌≡◌, ◌+◌, ◌*◌, ◌%◌, ◌<◌, sym, ◌∙◌, arith}
use Rattle.number.specs.Parts as bytes
use Rattle.map.specs.FormMap.{number_size, segment_size}
use Rattle.heap_words.proofs.FormLaws.{by_form}
use Rattle.heap_laws.proofs.ClimbLaws.{free-run}
use Rattle.heap_climb.proofs.past_segments.Goals as goal

pub loop-at-preserved : goal.loop-at-preserved
loop-at-preserved c =
    let form = c.args.form in
    let q = c.loop-at.at in
    let i = c.loop-at.invariant in
    let some = by_form (λ W G. 0 < G) (omega arith) (omega arith) form in
    rw c.segment-step.ensures
    (record {
      whole = by_form (λ W G. (q % G ≡ 0) → (q + 4 * G) % G ≡ 0) (λ h. omega arith) (λ h. omega arith) form i.whole;
      passed = (
        omega (arith, i.passed.0),
        omega (arith, c.loop-at-test.true, c.segment-step.ensures),
        free-run (number_size form) (segment_size form) some (bytes.at c.args.heap.now) _ _ 4 i.whole i.passed.2
            (sym c.four_free.ensures ∙ c.if-four_free.true),
      );
    })
