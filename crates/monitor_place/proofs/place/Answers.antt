-- `monitor_place::place` meets its contract. Assumes nothing.
use Rattle.std.proofs.Common.{sym}
use Rattle.plain.specs.Call.{place}
use Rattle.map.specs.FormMap.{under}
use Rattle.shadows.specs.Shadows.{Shadows, lengths_fit}
use Rattle.monitor_base.proofs.CallLaws.{early-good}
use Rattle.monitor_base.proofs.LocatingLaws.{heap-lengths}
use Rattle.monitor_read_laws.proofs.AnswerLaws.{answers, refuses}
use Rattle.monitor_read_laws.proofs.PlacingLaws.{place-empty}
use Rattle.monitor_place.proofs.RoomLaws.{room_fits, room-answer}
use Rattle.monitor_place.proofs.place.Goals as goal

pub returns-in-Err : goal.returns-in-Err
unfolding lengths_fit
returns-in-Err c =
    let s : Shadows = (c.args.heap.now, (c.args.primary.now, c.args.secondary.now)) in
    refuses (under c.args.form c.args.map) (place c.args.length c.args.budget) s c.refusal.result _ c.refusal.ensures
    c.in-Err.ensures.0 c.in-Err.ensures.1

pub returns-then-length-eq0 : goal.returns-then-length-eq0
unfolding lengths_fit
returns-then-length-eq0 c =
    let s : Shadows = (c.args.heap.now, (c.args.primary.now, c.args.secondary.now)) in
    let m = under c.args.form c.args.map in
    let g = early-good m s (sym c.in_default.ensures) in
    let r = c.refusal-then-length-eq0 in
    answers m (place c.args.length c.args.budget) s r.result _ r.ensures (place-empty m s g.0 g.1 c.args.length c.args.budget c.if-length-eq0.true)

pub choose-requires : goal.choose-requires
unfolding lengths_fit
choose-requires c =
    let s : Shadows = (c.args.heap.now, (c.args.primary.now, c.args.secondary.now)) in
    let m = under c.args.form c.args.map in
    let g = early-good m s (sym c.in_default.ensures) in
    let l = heap-lengths m s g.0 g.1 in
    (l.1, l.2)

pub answered-requires : goal.answered-requires
unfolding lengths_fit
answered-requires c =
    let s : Shadows = (c.args.heap.now, (c.args.primary.now, c.args.secondary.now)) in
    let m = under c.args.form c.args.map in
    let g = early-good m s (sym c.in_default.ensures) in
    let r = c.choose in
    room_fits m s g.0 g.1 c.args.length c.args.budget r.result r.ensures.result_value r.ensures.bytes_in_bounds

pub returns : goal.returns
unfolding lengths_fit
returns c =
    let s : Shadows = (c.args.heap.now, (c.args.primary.now, c.args.secondary.now)) in
    let m = under c.args.form c.args.map in
    let g = early-good m s (sym c.in_default.ensures) in
    let r = c.choose in
    answers m (place c.args.length c.args.budget) s c.answered.result _ c.answered.ensures
    (room-answer m s g.0 g.1 c.args.length c.args.budget r.result r.ensures.result_value c.if-length-eq0.false)
