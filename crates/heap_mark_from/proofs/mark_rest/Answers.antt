-- `heap_mark_from::mark_rest` meets its contract: eight positions and those that are left, or these alone, or none. Assumes nothing.
use Rattle.std.proofs.Common.{◌+◌, ◌-◌, ◌<◌, length, sym, ◌∙◌, arith}
use lib.ListN.{length-set}
use Rattle.map.specs.FormMap.{number_size, segment_size}
use Rattle.plain.proofs.MarkedLaws.{mark-none}
use Rattle.heap_layout.specs.Ops.{heap_ops}
use Rattle.heap_bits.proofs.AheadLaws.{byte_in, mark_part, mark_first}
use Rattle.heap_mark_from.proofs.mark_rest.Goals as goal

pub returns-then-last-e : goal.returns-then-last-e
returns-then-last-e c =
    let a = c.args in
    let h = a.heap.now in
    let p = a.start.0 in
    let r = a.end.0 - (p + 8) in
    let near = c.requires.start_value.3 in
    let k : p + a.ahead.own < length h = byte_in a.form p _ (length h) c.requires.heap_len.1 (omega arith) near.0 in
    let m : p + a.ahead.next < length h = byte_in a.form (p + 8) _ (length h) c.requires.heap_len.1 (omega arith) near.1 in
    sym
    (mark_first a.form (length h) h p 8 _ 0 (omega arith) near.0 (omega arith) (a.end.0 - p) r (omega arith) _ k c.set_bits.ensures
    ∙ mark_part a.form (length h) _ (p + 8) r _ 0 (omega arith) near.1 (omega arith) _ (rw (length-set h (p + a.ahead.own) c.set_bits.new.byte) m) c.set_bits-then-last-e.ensures)

pub returns-then-at-e : goal.returns-then-at-e
returns-then-at-e c =
    let a = c.args in
    let h = a.heap.now in
    let near = c.requires.start_value.3 in
    let k : a.start.0 + a.ahead.own < length h = byte_in a.form a.start.0 _ (length h) c.requires.heap_len.1 (omega arith) near.0 in
    sym (mark_part a.form (length h) h a.start.0 (a.end.0 - a.start.0) _ 0 (omega arith) near.0 (omega arith) _ k c.set_bits-then-at-e.ensures)

pub returns-else-at-e : goal.returns-else-at-e
returns-else-at-e c =
    let a = c.args in
    sym (mark-none (heap_ops (number_size a.form) (segment_size a.form) (length a.heap.now)) a.heap.now a.start.0 (a.end.0 - a.start.0) (omega arith))
