-- `calls_origins_kinds::kind_of` meets its contract. Assumes nothing.
use mathlib.Core.Path.{sym, ◌∙◌}
use Rattle.calls_format.specs.Decoded as plain
use Rattle.calls_origins_format.proofs.RecordLaws.{asked-kind}
use borrow.Author.Rules.{rules}
use Rattle.calls_origins_kinds.proofs.kind_of.Goals as goal

pub returns-in-Plain : goal.returns-in-Plain
returns-in-Plain c = rw c.in-Plain.is (c.kind_of.ensures ∙ sym (asked-kind (plain.requested c.in-Plain.plain)))
