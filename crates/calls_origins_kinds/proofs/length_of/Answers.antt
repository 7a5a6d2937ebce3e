-- `calls_origins_kinds::length_of` meets its contract. Assumes nothing.
use mathlib.Core.Path.{sym, ◌∙◌}
use Rattle.calls_format.specs.Decoded as plain
use Rattle.calls_origins_format.proofs.RecordLaws.{plain-length, pointer-length}
use borrow.Author.Rules.{rules}
use Rattle.calls_origins_kinds.proofs.length_of.Goals as goal

pub returns-in-Plain : goal.returns-in-Plain
returns-in-Plain c = rw c.in-Plain.is (c.length_of.ensures ∙ sym (plain-length (plain.requested c.in-Plain.plain)))

pub returns-in-Pointer : goal.returns-in-Pointer
returns-in-Pointer c = rw c.in-Pointer.is (sym (pointer-length c.in-Pointer.field-0))
