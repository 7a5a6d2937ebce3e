-- `monitor_record::recorded` meets its contract: the check, then the effect. Assumes nothing.
use mathlib.Core.Path.{refl, sym}
use Rattle.std.proofs.lemmas.Result.{err_from_is_err_and}
use Rattle.shadows.specs.Shadows.{Shadows}
use Rattle.monitor_write_laws.proofs.RecordChecks.{record-refused, record-done}
use Rattle.map.specs.FormMap.{under}
use Rattle.monitor_record.proofs.recorded.Goals as goal

pub returns-in_err-place : goal.returns-in_err-place
returns-in_err-place c =
    let s : Shadows = (c.args.heap.now, (c.args.primary.now, c.args.secondary.now)) in
    let e = c.in_err-place.ensures.0 in
    let p = err_from_is_err_and c.from_residual.result c.from_residual.ensures.1 in
    rw (p.1, p.2) (record-refused (under c.args.form c.args.map) s c.args.base.0 c.args.len c.args.how _ e.0 e.1)

pub stamp-requires : goal.stamp-requires
stamp-requires c = c.in_ok-place.ensures.1.1

pub returns : goal.returns
returns c =
    let s : Shadows = (c.args.heap.now, (c.args.primary.now, c.args.secondary.now)) in
    let e = c.in_ok-place.ensures in
    record-done (under c.args.form c.args.map) s c.args.base.0 c.args.len c.args.how 0 (sym e.0) refl c.in_ok-place.place e.1.0 _ c.stamp.ensures
