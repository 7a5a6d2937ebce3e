-- `samples_bytes::changes::change_end` meets its contract. Assumes nothing.
use mathlib.Core.Path.{sym, ◌∙◌}
use mathlib.Core.Logic.{inl, inr}
use Rattle.samples_bytes.proofs.ChangeLaws.{end-first, end-last, end-next}
use borrow.Author.Rules.{rules}
use Rattle.samples_bytes.proofs.changes.change_end.Goals as goal
use Rattle.samples_bytes.proofs.changes.change_end.Goals.{then-old-i, else-old-i}

pub loop-i-init : goal.loop-i-init
loop-i-init c = end-first _ _

pub loop-i-preserved : goal.loop-i-preserved
loop-i-preserved c =
    let l = c.loop-i in
    l.invariant
    ∙ end-next _ _ l.end l.i (search rules) c.requires c.if-old-i.end
    (elim c.if-old-i.branch [ then-old-i w ↦ inl (w.if-old-i.true, w.end-is) | else-old-i w ↦ inr (w.if-old-i.false, w.end-is) ])

pub returns : goal.returns
returns c = let l = c.loop-i in sym (l.invariant ∙ end-last _ _ _ l.i (search rules))
