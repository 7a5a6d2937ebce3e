-- `heap_marked_from::rest_marked` meets its contract: eight positions and those that are left, or these alone, or none. Assumes nothing.
use Rattle.std.proofs.Common.{◌+◌, ◌-◌, length, sym, arith, ◌∙◌}
use Rattle.map.specs.FormMap.{number_size, segment_size}
use Rattle.plain.proofs.MarkedLaws.{marked-none}
use Rattle.heap_layout.specs.Ops.{heap_ops}
use Rattle.heap_bits.proofs.AheadLaws.{marked_part, marked_first}
use Rattle.heap_marked_from.proofs.rest_marked.Goals as goal

pub returns-then-bits_set : goal.returns-then-bits_set
returns-then-bits_set c =
    let a = c.args in
    let h = a.heap.now in
    let p = a.start.0 in
    let near = c.requires.start_value.3 in
    let r = a.end.0 - (p + 8) in
    sym
    (marked_first a.form (length h) h p 8 _ 0 (omega arith) near.0 (omega arith) (a.end.0 - p) r (omega arith) c.bits_set.result c.bits_set.ensures
    ∙ rw c.if-bits_set.true
    (marked_part a.form (length h) h (p + 8) r _ 0 (omega arith) near.1 (omega arith) c.bits_set-then-bits_set.result c.bits_set-then-bits_set.ensures))

pub returns-else-bits_set : goal.returns-else-bits_set
returns-else-bits_set c =
    let a = c.args in
    let h = a.heap.now in
    let p = a.start.0 in
    sym
    (marked_first a.form (length h) h p 8 _ 0 (omega arith) c.requires.start_value.3.0 (omega arith) (a.end.0 - p) (a.end.0 - (p + 8)) (omega arith) c.bits_set.result
    c.bits_set.ensures
    ∙ rw c.if-bits_set.false)

pub returns-then-at-e : goal.returns-then-at-e
returns-then-at-e c =
    let a = c.args in
    let h = a.heap.now in
    sym
    (marked_part a.form (length h) h a.start.0 (a.end.0 - a.start.0) _ 0 (omega arith) c.requires.start_value.3.0 (omega arith) c.bits_set-then-at-e.result
    c.bits_set-then-at-e.ensures)

pub returns : goal.returns
returns c =
    let a = c.args in
    sym (marked-none (heap_ops (number_size a.form) (segment_size a.form) (length a.heap.now)) a.heap.now a.start.0 (a.end.0 - a.start.0) (omega arith))
