-- `monitor_clear::clear` meets its contract. Assumes nothing.
use Rattle.std.proofs.Common.{sym, refl}
use Rattle.plain.specs.Call.{clear, done}
use Rattle.map.specs.FormMap.{under}
use Rattle.shadows.specs.Shadows.{Shadows, lengths_fit}
use Rattle.monitor_write_laws.proofs.OutcomeLaws.{refused, stepped}
use Rattle.monitor_write_laws.proofs.ClearingLaws.{clear_step}
use Rattle.monitor_clear.proofs.clear.Goals as goal

pub returns-in-Err : goal.returns-in-Err
unfolding lengths_fit
returns-in-Err c =
    let s : Shadows = (c.args.heap.now, (c.args.primary.now, c.args.secondary.now)) in
    refused (under c.args.form c.args.map) clear s _ c.in-Err.ensures.0 _ c.in-Err.ensures.1 c.refusal.ensures

pub returns : goal.returns
unfolding lengths_fit
returns c =
    let s : Shadows = (c.args.heap.now, (c.args.primary.now, c.args.secondary.now)) in
    let t : Shadows = (c.fill_zero.new.s, (c.fill_zero-2.new.s, c.fill_zero-3.new.s)) in
    stepped (under c.args.form c.args.map) clear s _ (sym c.in_default.ensures) _ refl t done c.accepted.ensures
    (λ g l. clear_step (under c.args.form c.args.map) s t l c.fill_zero.ensures c.fill_zero-2.ensures c.fill_zero-3.ensures)
