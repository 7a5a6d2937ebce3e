-- `monitor_place::answered` meets its contract. Assumes nothing.
use Rattle.std.proofs.Common.{◌∙◌}
use native.Mathlib.Omega.{arith}
use borrow.Author.Tests.{eq-eqb, ne_eqb}
use Rattle.map.specs.FormMap.{segment_size}
use Rattle.monitor_place.proofs.RoomLaws.{header-in}
use Rattle.monitor_place.proofs.answered.Goals as goal

pub returns-then-g-eq0 : goal.returns-then-g-eq0
returns-then-g-eq0 c = c.refusal.ensures ∙ rw (eq-eqb c.args.g.bytes 0 c.if-g-eq0.true)

pub overflow_add-second : goal.overflow_add-second
overflow_add-second c =
    omega (arith, c.requires.inside, c.segment.ensures, c.requires.holds c.if-g-eq0.false, header-in (segment_size c.args.form) c.args.len)

pub to_address-base-requires : goal.to_address-base-requires
to_address-base-requires c =
    omega (arith, c.requires.inside, c.segment.ensures, c.requires.holds c.if-g-eq0.false, header-in (segment_size c.args.form) c.args.len)

pub overflow_sub-left : goal.overflow_sub-left
overflow_sub-left c =
    omega (arith, c.needed.ensures, c.requires.holds c.if-g-eq0.false)

pub returns : goal.returns
returns c =
    rw (c.to_address-base.ensures, c.segment.ensures, c.needed.ensures, ne_eqb c.args.g.bytes 0 c.if-g-eq0.false)
