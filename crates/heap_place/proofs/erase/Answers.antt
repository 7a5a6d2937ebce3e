-- `heap_place::erase` meets its contract. Assumes nothing.
use mathlib.Core.Path.{◌∙◌}
use native.Mathlib.Omega.{arith}
use Rattle.map.specs.FormMap.{segment_size, wide_of, two_of}
use Rattle.heap_layout.specs.Ops.{heap_erase}
use Rattle.heap_laws.proofs.PlaceLaws.{place_in}
use Rattle.heap_place.proofs.erase.Goals as goal

pub fill_zero_at-requires : goal.fill_zero_at-requires
fill_zero_at-requires c =
    let p = c.requires in
    rw (c.place_length.ensures, c.segment.ensures)
    (place_in (segment_size c.args.form) c.args.base.0 c.args.len _ (omega (arith, wide_of c.args.form, two_of c.args.form)) p.form_bound.0 p.form_bound.1 p.form_bound.2 p.le_len.1)

pub returns : goal.returns
unfolding heap_erase
returns c = c.fill_zero_at.ensures ∙ rw (c.place_length.ensures, c.segment.ensures)
