-- `heap_mark_from::mark_two` meets its contract: eight positions, and eight more. Assumes nothing.
use Rattle.std.proofs.Common.{◌+◌, ◌<◌, length, refl, sym, ◌∙◌, arith}
use lib.ListN.{length-set}
use Rattle.heap_bits.proofs.AheadLaws.{byte_in, mark_part, mark_first}
use Rattle.heap_mark_from.proofs.mark_two.Goals as goal

pub bounds-heap-at : goal.bounds-heap-at
bounds-heap-at c =
    let a = c.args in
    byte_in a.form a.at _ (length a.heap.now) c.requires.heap_len.0 (omega arith) c.requires.at_value.2.0

pub bounds-heap-at-2 : goal.bounds-heap-at-2
bounds-heap-at-2 c =
    let a = c.args in
    rw (length-set a.heap.now (a.at + a.ahead.own) c.set_bits.new.byte)
    (byte_in a.form (a.at + 8) _ (length a.heap.now) c.requires.heap_len.0 (omega arith) c.requires.at_value.2.1)

pub returns : goal.returns
returns c =
    let a = c.args in
    let h = a.heap.now in
    let p = a.at in
    let near = c.requires.at_value.2 in
    let k : p + a.ahead.own < length h = byte_in a.form p _ (length h) c.requires.heap_len.0 (omega arith) near.0 in
    let m : p + a.ahead.next < length h = byte_in a.form (p + 8) _ (length h) c.requires.heap_len.0 (omega arith) near.1 in
    sym
    (mark_first a.form (length h) h p 8 _ 0 (omega arith) near.0 (omega arith) 16 8 refl _ k c.set_bits.ensures
    ∙ mark_part a.form (length h) _ (p + 8) 8 _ 0 (omega arith) near.1 (omega arith) _ (rw (length-set h (p + a.ahead.own) c.set_bits.new.byte) m) c.set_bits-2.ensures)
