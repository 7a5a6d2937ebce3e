-- `monitor_written::written` meets its contract: the check, then the effect. Assumes nothing.
use Rattle.std.proofs.Common.{sym, refl}
use Rattle.map.specs.FormMap.{under}
use Rattle.plain.specs.Call.{written}
use Rattle.shadows.specs.Shadows.{Shadows}
use Rattle.monitor_write_laws.proofs.CheckLaws.{call-refused}
use Rattle.monitor_write_laws.proofs.WrittenChecks.{written-call}
use Rattle.monitor_written.proofs.written.Goals as goal

pub returns-in-Ok : goal.returns-in-Ok
returns-in-Ok c =
    let s : Shadows = (c.args.heap.now, (c.args.primary.now, c.args.secondary.now)) in
    let f = c.in-Ok.ensures in
    rw c.accepted.ensures
    (written-call (under c.args.form c.args.map) s c.args.a.0 c.args.n 0 (sym f.0) c.in-Ok.place (λ z. f.1) (λ z. absurd (z refl)) _ (c.mark.ensures c.args.secondary.now))

pub returns-in-Err : goal.returns-in-Err
returns-in-Err c =
    let s : Shadows = (c.args.heap.now, (c.args.primary.now, c.args.secondary.now)) in
    let f = c.in-Err.ensures in
    rw c.refusal.ensures (sym (call-refused (under c.args.form c.args.map) (written c.args.a.0 c.args.n) s refl _ f.0 f.1))
