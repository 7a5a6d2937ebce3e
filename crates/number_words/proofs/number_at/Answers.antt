-- `number_words::number_at` meets its contract. Assumes nothing.
use mathlib.Core.Path.{◌∙◌}
use native.Mathlib.Nat.{add-sub_cancel_left}
use Rattle.number.proofs.LittleLaws.{le-word}
use Rattle.number_words.proofs.number_at.Goals as goal

pub returns : goal.returns
returns c =
    let s = c.before.before.before.args.s.now in
    let p = c.before.before.before.args.p in
    c.number.ensures ∙ rw (add-sub_cancel_left p 4) (le-word s 4 p c.before.before.before.requires)
