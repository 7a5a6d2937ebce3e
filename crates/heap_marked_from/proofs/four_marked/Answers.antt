-- `heap_marked_from::four_marked` meets its contract: eight positions, and eight more, and the 16 as far on. Assumes nothing.
use Rattle.std.proofs.Common.{◌≡◌, ◌+◌, length, refl, sym, arith}
use Rattle.map.specs.FormMap.{number_size, segment_size}
use Rattle.heap_layout.specs.Reading.{bits_place}
use Rattle.heap_bits.proofs.AheadLaws.{ahead_on, marked_part, marked_after}
use Rattle.heap_marked_from.proofs.four_marked.Goals as goal

pub returns : goal.returns
returns c =
    let form = c.args.form in
    let h = c.args.heap.now in
    let L = length h in
    let p = c.args.at in
    let near = c.requires.at_value.2 in
    let far = ahead_on form p 16 _ _ refl near in
    let e : p + 16 + 8 ≡ p + 24 = omega arith in
    let last : p + 16 + c.args.ahead.next ≡ bits_place (number_size form) (segment_size form) (p + 24) = rw e at far.1 in
    let first = marked_part form L h p 8 _ 0 (omega arith) near.0 (omega arith) c.bits_set.result c.bits_set.ensures in
    let second = marked_after form L h (p + 8) 8 _ 0 (omega arith) near.1 (omega arith) p 8 _ _ refl first c.bits_set-2.ensures in
    let third = marked_after form L h (p + 16) 8 _ 0 (omega arith) far.0 (omega arith) p 16 _ _ refl second c.bits_set-3.ensures in
    sym (marked_after form L h (p + 24) 8 _ 0 (omega arith) last (omega arith) p 24 _ _ refl third c.bits_set-4.ensures)
