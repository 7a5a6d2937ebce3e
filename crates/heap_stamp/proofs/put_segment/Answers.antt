-- `heap_stamp::put_segment` meets its contract. Assumes nothing.
use Rattle.std.proofs.Common.{◌∙◌}
use Rattle.map.specs.FormMap.{number_size}
use Rattle.heap_words.proofs.FormLaws.{segment_two}
use Rattle.heap_laws.proofs.PairLaws.{pair-over}
use Rattle.heap_stamp.proofs.put_segment.Goals as goal

pub returns : goal.returns
returns c =
    let a = c.args in
    c.put_at-2.ensures ∙ rw (c.put_at.ensures, c.number.ensures, segment_two a.form) (pair-over (number_size a.form) a.p.0 a.low a.high a.heap.now)
