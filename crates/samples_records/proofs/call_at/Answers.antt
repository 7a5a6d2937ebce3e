-- `samples_records::call_at` meets its contract. Assumes nothing.
use Rattle.std.proofs.Common.{ap, ◌∙◌}
use Rattle.std.specs.Prelude.{unwrap_or}
use Rattle.samples_records.proofs.RecordLaws.{call-whole, call-goes-on}
use Rattle.samples_records.proofs.call_at.Goals as goal

pub returns-then-at_end : goal.returns-then-at_end
returns-then-at_end c =
    let w = c.unwrap_or-name.ensures ∙ ap (λ o. unwrap_or o (record { kind = 0; end = c.args.at })) c.name_at.ensures.0 in
    call-whole _ _ _ _ w _ _ _ c.put-record.ensures.0 c.put-record.ensures.1 c.at_end.ensures c.if-at_end.true

pub returns-else-at_end : goal.returns-else-at_end
returns-else-at_end c =
    let w = c.unwrap_or-name.ensures ∙ ap (λ o. unwrap_or o (record { kind = 0; end = c.args.at })) c.name_at.ensures.0 in
    call-goes-on _ _ _ _ w _ _ _ c.put-record.ensures.0 c.put-record.ensures.1 c.at_end.ensures c.if-at_end.false
