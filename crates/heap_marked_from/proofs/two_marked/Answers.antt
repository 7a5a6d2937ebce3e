-- `heap_marked_from::two_marked` meets its contract: eight positions, and eight more. Assumes nothing.
use Rattle.std.proofs.Common.{◌+◌, length, refl, sym, arith, ◌∙◌}
use Rattle.heap_bits.proofs.AheadLaws.{marked_part, marked_first}
use Rattle.heap_marked_from.proofs.two_marked.Goals as goal

pub returns-then-bits_set : goal.returns-then-bits_set
returns-then-bits_set c =
    let a = c.args in
    let h = a.heap.now in
    let near = c.requires.at_value.2 in
    sym
    (marked_first a.form (length h) h a.at 8 _ 0 (omega arith) near.0 (omega arith) 16 8 refl c.bits_set.result c.bits_set.ensures
    ∙ rw c.if-bits_set.true
    (marked_part a.form (length h) h (a.at + 8) 8 _ 0 (omega arith) near.1 (omega arith) c.bits_set-then-bits_set.result c.bits_set-then-bits_set.ensures))

pub returns-else-bits_set : goal.returns-else-bits_set
returns-else-bits_set c =
    let a = c.args in
    let h = a.heap.now in
    sym
    (marked_first a.form (length h) h a.at 8 _ 0 (omega arith) c.requires.at_value.2.0 (omega arith) 16 8 refl c.bits_set.result c.bits_set.ensures
    ∙ rw c.if-bits_set.false)
