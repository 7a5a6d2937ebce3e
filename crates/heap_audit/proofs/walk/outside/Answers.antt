-- `heap_audit::walk::outside` meets its contract. Assumes nothing.
use Rattle.std.proofs.Common.{arith}
use Rattle.map.specs.FormMap.{wide_of}
use Rattle.heap_words.proofs.FormLaws.{segment_two}
use Rattle.heap_audit_laws.proofs.TurnLaws.{turn_low, turn-free, turn-past, turn-opens}
use Rattle.heap_audit.proofs.walk.outside.Goals as goal

pub returns-then-low-ne0 : goal.returns-then-low-ne0
returns-then-low-ne0 c =
    let f = c.args.form in turn_low _ _ (wide_of f) (segment_two f) c.requires.1 c.requires.0 (λ x. omega arith)

pub returns-then-high-eq0 : goal.returns-then-high-eq0
returns-then-high-eq0 c =
    let f = c.args.form in
    turn-free _ _ (wide_of f) (segment_two f) c.requires.1 c.requires.0 (omega arith) (omega arith)

pub returns-then-left-high : goal.returns-then-left-high
returns-then-left-high c =
    let f = c.args.form in
    turn-past _ _ (wide_of f) (segment_two f) c.requires.1 c.requires.0 (omega arith) (λ x. omega arith)
    (omega (arith, rw c.segment-segment.ensures at c.if-left-high.true))

pub returns : goal.returns
returns c =
    let f = c.args.form in
    turn-opens _ _ (wide_of f) (segment_two f) c.requires.1 c.requires.0 (omega arith) (λ x. omega arith)
    (omega (arith, rw c.segment-segment.ensures at c.if-left-high.false))
