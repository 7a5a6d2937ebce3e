-- `monitor_free::free` meets its contract: map and lengths, then the check. Assumes nothing.
use Rattle.std.proofs.Common.{sym}
use Rattle.plain.specs.Call.{free}
use Rattle.map.specs.FormMap.{under}
use Rattle.shadows.specs.Shadows.{Shadows, lengths_fit}
use Rattle.monitor_base.proofs.CallLaws.{early-good}
use Rattle.monitor_write_laws.proofs.OutcomeLaws.{refused}
use Rattle.monitor_free.proofs.free.Goals as goal

pub returns-in-Err : goal.returns-in-Err
unfolding lengths_fit
returns-in-Err c =
    let s : Shadows = (c.args.heap.now, (c.args.primary.now, c.args.secondary.now)) in
    refused (under c.args.form c.args.map) (free c.args.base.0) s _ c.in-Err.ensures.0 _ c.in-Err.ensures.1 c.refusal.ensures

pub check-requires : goal.check-requires
unfolding lengths_fit
check-requires c =
    let s : Shadows = (c.args.heap.now, (c.args.primary.now, c.args.secondary.now)) in
    early-good (under c.args.form c.args.map) s (sym c.in_default.ensures)
