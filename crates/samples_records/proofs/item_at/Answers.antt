-- `samples_records::item_at` meets its contract. Assumes nothing.
use mathlib.Core.Path.{sym, ◌∙◌}
use Rattle.samples_records.proofs.RecordLaws.{item-end, item-none, item-large, item-whole, item-goes-on}
use Rattle.samples_records.proofs.item_at.Goals as goal

pub returns-then-line-start : goal.returns-then-line-start
returns-then-line-start c = item-end _ _ _ _ c.skip_gaps-start.ensures c.if-line-start.true

pub returns-in_default : goal.returns-in_default
returns-in_default c =
    item-none _ _ _ _ c.skip_gaps-start.ensures c.if-line-start.false (sym c.number_at.ensures ∙ c.in_default.is)

pub returns-then-kind-gt65535 : goal.returns-then-kind-gt65535
returns-then-kind-gt65535 c =
    item-large _ _ _ _ c.skip_gaps-start.ensures c.if-line-start.false _ _ (sym c.number_at.ensures ∙ c.in-Some.is) c.if-kind-gt65535.true

pub returns-then-at_gap : goal.returns-then-at_gap
returns-then-at_gap c =
    item-whole _ _ _ _ c.skip_gaps-start.ensures c.if-line-start.false _ _ (sym c.number_at.ensures ∙ c.in-Some.is) c.if-kind-gt65535.false
    _ _ _ c.put-record.ensures.0 c.put-record.ensures.1 c.at_gap.ensures c.if-at_gap.true

pub returns-else-at_gap : goal.returns-else-at_gap
returns-else-at_gap c =
    item-goes-on _ _ _ _ c.skip_gaps-start.ensures c.if-line-start.false _ _ (sym c.number_at.ensures ∙ c.in-Some.is) c.if-kind-gt65535.false
    _ _ _ c.put-record.ensures.0 c.put-record.ensures.1 c.at_gap.ensures c.if-at_gap.false
