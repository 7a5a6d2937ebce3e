-- `map::in_segments` meets its contract. Assumes nothing.
use Rattle.std.proofs.Common.{◌≡◌, ◌*◌, ◌+◌, ◌≤◌, arith}
use Rattle.map.specs.FormMap.{segment_size}
use Rattle.map.specs.declared.Form.{Form}
use Rattle.map.specs.declared.Form.TheVariants.{Player, Desk}
use Rattle.map.proofs.in_segments.Goals as goal

segment-most : (form : Form) → segment_size form ≤ 16
segment-most Player = omega arith
segment-most Desk = omega arith

pub overflow_mul-result : goal.overflow_mul-result
overflow_mul-result c = omega (arith, segment-most c.args.form, c.segment.ensures)

pub returns : goal.returns
returns c =
    let e : 2 * c.segment.result ≡ segment_size c.args.form + segment_size c.args.form = omega (arith, c.segment.ensures) in
    rw (e, c.whole.ensures, c.whole-2.ensures)
