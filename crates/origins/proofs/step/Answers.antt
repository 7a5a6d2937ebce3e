-- `origins::step` meets its contract: a call of the plain form, or one of pointers. Assumes nothing.
use mathlib.Core.Path.{sym, ◌∙◌}
use borrow.Author.Rules.{rules}
use Rattle.specification_origins.proofs.OriginsSame.{call_same}
use Rattle.origins.proofs.step.Goals as goal

pub returns-in-Plain : goal.returns-in-Plain
returns-in-Plain c =
    rw c.in-Plain.is (c.plain_step.ensures ∙ sym (call_same _ _ _))

pub returns-in-Pointer : goal.returns-in-Pointer
returns-in-Pointer c =
    rw c.in-Pointer.is (c.pointer_step-answer.ensures _ ∙ sym (call_same _ _ _))
